-- Calls that can be written have a text.
use Rattle.std.proofs.Common.{◌≡◌, ℕ, zero, suc, ◌<◌, ◌≤◌, ◌^◌, inl, inr, List, [], ◌∷◌, ◌++◌, length, refl, subst}
use Rattle.std.specs.Prelude.{slice_get, Option, Some, None}
use Rattle.std.specs.List.{join_with_byte}
use Rattle.hc_signal.specs.declared.signal.Instance.{Instance}
use Rattle.hc_signal.specs.Lawful.{IsLawful}
use Rattle.hc_signal.specs.Member.{Has, first, later}
use Rattle.hc_signal.specs.Tree.{Tree, graph, kid}
use Rattle.hc_canon.specs.Same.{Same}
use Rattle.hc_names.specs.Naming.{AreNames, AreNamesAfter, Given, NamedTree}
use Rattle.hc_verilog.specs.ModuleText.{IsTreeText}
use Rattle.hc_modules.specs.VerilogText.{AreModules, IsCallText, IsNameOf, IsPrinted, IsVerilog}
use Rattle.hc_modules.specs.Writable.{IsWritable}
use Rattle.hc_modules.proofs.Reaching.{reached_instance}

-- ---- laws below, as premises

abbrev pub CallsCanBeNamed : Type 0
CallsCanBeNamed = (calls : List NamedTree) → length calls < 2 ^ 64 → ((names : List (List ℕ)) → AreNames calls names → ⊥) → ⊥

abbrev pub TreesHaveTexts : Type 0
TreesHaveTexts = (t : Tree) (modules : ℕ → List ℕ) (title : List ℕ) → IsLawful (graph t) → length (graph t).ports.inputs ≤ 4294967296 → length (graph t).ports.outputs ≤ 4294967296
    → (text : List ℕ) × IsTreeText t modules title text

-- ---- names

-- a call with its name, at its place
record NamedAt (calls : List NamedTree) (names : List (List ℕ)) (call : NamedTree) : Type 0 where
  place : ℕ
  name : List ℕ
  stands : slice_get calls place ≡ Some call
  is : slice_get names place ≡ Some name

named_later : (c : NamedTree) (cs : List NamedTree) (n : List ℕ) (ns : List (List ℕ)) (call : NamedTree) → NamedAt cs ns call → NamedAt (c ∷ cs) (n ∷ ns) call
named_later c cs n ns call at = record { place = suc at.place; name = at.name; stands = at.stands; is = at.is }

-- each call has a name
named_at : (given : Given) (calls : List NamedTree) (names : List (List ℕ)) → AreNamesAfter given calls names → (call : NamedTree) → Has calls call → NamedAt calls names call
named_at given [] names are call has = elim has [ ]
named_at given (c ∷ cs) [] are call has = absurd are
named_at given (c ∷ cs) (n ∷ ns) are call first = record { place = zero; name = n; stands = refl; is = refl }
named_at given (c ∷ cs) (n ∷ ns) are call (later has) = named_later c cs n ns call (named_at (given ++ (c, n) ∷ []) cs ns are.1 call has)

-- ---- the modules

module _ (reflexive : (t : Tree) → Same t t) (trees : TreesHaveTexts) (top : Tree) (calls : List NamedTree) (names : List (List ℕ)) (are : AreNames calls names) where
  name_of : (call : NamedTree) (t : Tree) → Has calls call → call.tree ≡ t → (name : List ℕ) × IsNameOf top calls names t name
  name_of call t has same =
      let at : NamedAt calls names call = named_at [] calls names are call has in
      (at.name, (at.place, call, at.stands, subst (λ u. Same call.tree u) same (reflexive call.tree), at.is))

  abbrev IsNameAt : NamedTree → ℕ → Option Instance → List ℕ → Type 0
  IsNameAt call i o name = (it : Instance) → o ≡ Some it → IsNameOf top calls names (kid call.tree i) name

  -- the name of the module of an instance, where there is one
  name_at : (call : NamedTree) → IsWritable calls call → (i : ℕ) (o : Option Instance) → slice_get (graph call.tree).instances i ≡ o → (name : List ℕ) × IsNameAt call i o name
  name_at call can i None e = ([], λ it q. absurd cc)
  name_at call can i (Some it) e =
      let other : (c : NamedTree) × Has calls c × (c.tree ≡ kid call.tree i) = can.kids i it e in
      let named : (name : List ℕ) × IsNameOf top calls names (kid call.tree i) name = name_of other.0 (kid call.tree i) other.1 other.2 in
      (named.0, λ it q. named.1)

  call_text : (call : NamedTree) (name : List ℕ) → IsWritable calls call → (text : List ℕ) × IsCallText top calls names call name text
  call_text call name can =
      let at : (i : ℕ) → (name : List ℕ) × IsNameAt call i (slice_get (graph call.tree).instances i) name = λ i. name_at call can i (slice_get (graph call.tree).instances i) refl in
      let text : (text : List ℕ) × IsTreeText call.tree (λ i. (at i).0) name text = trees call.tree (λ i. (at i).0) name can.lawful can.few_inputs can.few_outputs in (
        text.0,
        record {
          modules = λ i. (at i).0;
          named = λ i r. (let it : (it : Instance) × (slice_get (graph call.tree).instances i ≡ Some it) = reached_instance (graph call.tree) can.lawful i r in (at i).1 it.0 it.1);
          text_is = text.1;
        },
      )

  abbrev HaveModules : ℕ → List NamedTree → Type 0
  HaveModules k rest = (texts : List (List ℕ)) × AreModules top calls names k rest texts

  -- whether a call is printed is decided by contradiction
  modules_exist : (k : ℕ) (rest : List NamedTree) → ((call : NamedTree) → Has rest call → IsWritable calls call) → (HaveModules k rest → ⊥) → ⊥
  modules_exist k [] can none = none ([], refl)
  modules_exist k (call ∷ rest) can none = modules_exist (suc k) rest (λ other has. can other (later has)) after
    where
      after : HaveModules (suc k) rest → ⊥
      after more = none (more.0, inr (unprinted, more.1))
        where
          unprinted : (name : List ℕ) → ¬ IsPrinted top calls names k call name
          unprinted name printed =
              let text : (text : List ℕ) × IsCallText top calls names call name text = call_text call name (can call first) in
              none (text.0 ∷ more.0, inl (name, text.0, more.0, printed, text.1, refl, more.1))

pub text_exists : ((t : Tree) → Same t t) → CallsCanBeNamed → TreesHaveTexts → (top : Tree) (calls : List NamedTree) → length calls < 2 ^ 64
    → ((call : NamedTree) → Has calls call → IsWritable calls call) → (((text : List ℕ) × IsVerilog top calls text) → ⊥) → ⊥
text_exists reflexive nameable trees top calls few can none =
    nameable calls few (λ names are. modules_exist reflexive trees top calls names are 0 calls can (λ modules.
    none (join_with_byte 10 modules.0, record { names = names; right = are; texts = modules.0; modules = modules.1; text_is = refl })))
