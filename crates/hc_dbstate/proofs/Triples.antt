-- The turns of a legal history and their triples.
use Rattle.std.proofs.Common.{◌≡◌, ℕ, zero, suc, ◌+◌, ◌<◌, ◌≤◌, Bool, true, false, cond, List, [], ◌∷◌, ◌++◌, length, take, refl, sym, subst, ◌∙◌, ap, arith}
use Rattle.std.specs.Prelude.{slice_get, filter_map, option_map, Option, Some, None, unwrap_or}
use Rattle.std.specs.List.{cons_option}
use Rattle.std.proofs.lemmas.List.Sums.{sum_by-append}
use Rattle.std.proofs.lemmas.List.Elements.{filter_map-append}
use Rattle.hc_signal.specs.Member.{Has, first, later}
use Rattle.hc_canon.specs.FormView.{FormView}
use Rattle.hc_canon.proofs.LaidOut.{slice_left}
use Rattle.hc_dbstate.specs.declared.turns.Turn.{Turn}
use Rattle.hc_dbstate.specs.declared.turns.Entered.{Entered}
use Rattle.hc_dbstate.specs.History.{History, fresh_turns, IsLegalTurn, IsLegal, entered, log}

pub some_once : {X : Type 0} {a b : X} → Some a ≡ Some b → a ≡ b
some_once {X} {a} q = ap (λ o. unwrap_or o a) q

pub some_at : {X : Type 0} (xs : List X) (k : ℕ) → k < length xs → (x : X) × (slice_get xs k ≡ Some x)
some_at [] k b = absurd (omega (arith, b))
some_at (x ∷ xs) zero b = (x, refl)
some_at (x ∷ xs) (suc k) b = some_at xs k (omega (arith, b))

-- counting fresh turns
fresh_one : (t : Turn) → fresh_turns (t ∷ []) ≡ cond t.fresh 1 0
fresh_one t = go t.fresh
  where
    go : (f : Bool) → fresh_turns (record { entry = t.entry; fresh = f } ∷ []) ≡ cond f 1 0
    go true = refl
    go false = refl

pub fresh_after : (ts : List Turn) (t : Turn) → fresh_turns (ts ++ t ∷ []) ≡ fresh_turns ts + cond t.fresh 1 0
fresh_after ts t = sum_by-append (λ (t : Turn). cond t.fresh 1 0) ts (t ∷ []) ∙ ap (λ n. fresh_turns ts + n) (fresh_one t)

fresh_cons : (t : Turn) (ts : List Turn) → fresh_turns (t ∷ ts) ≡ cond t.fresh 1 0 + fresh_turns ts
fresh_cons t ts = sum_by-append (λ (t : Turn). cond t.fresh 1 0) (t ∷ []) ts ∙ ap (λ n. n + fresh_turns ts) (fresh_one t)

pub fresh_some : (ts : List Turn) (k : ℕ) (t : Turn) → slice_get ts k ≡ Some t → fresh_turns (take k ts) + cond t.fresh 1 0 ≤ fresh_turns ts
fresh_some [] k t e = cc
fresh_some (u ∷ ts) zero t e = (let q : u ≡ t = some_once e in subst (λ (v : Turn). 0 + cond v.fresh 1 0 ≤ fresh_turns (u ∷ ts)) q
    (let c : fresh_turns (u ∷ ts) ≡ cond u.fresh 1 0 + fresh_turns ts = fresh_cons u ts in omega (arith, c)))
fresh_some (u ∷ ts) (suc k) t e =
    let r : fresh_turns (take k ts) + cond t.fresh 1 0 ≤ fresh_turns ts = fresh_some ts k t e in
    let c : fresh_turns (u ∷ ts) ≡ cond u.fresh 1 0 + fresh_turns ts = fresh_cons u ts in
    let d : fresh_turns (u ∷ take k ts) ≡ cond u.fresh 1 0 + fresh_turns (take k ts) = fresh_cons u (take k ts) in
    omega (arith, r, c, d)

turn_below : (f : Bool) (before all entry : ℕ) → IsLegalTurn before entry f → before + cond f 1 0 ≤ all → entry < all
turn_below true before all entry e h = (let q : entry ≡ before = e in omega (arith, q, h))
turn_below false before all entry e h = (let q : entry < before = e in omega (arith, q, h))

-- each of the turns names one of the entries
abbrev pub NameEntries : List FormView → List Turn → Type 0
NameEntries entries turns = (k : ℕ) (t : Turn) → slice_get turns k ≡ Some t → t.entry.0 < length entries

pub legal_names : (h : History) → IsLegal h → NameEntries h.entries h.turns
legal_names h legal k t e =
    subst (λ n. t.entry.0 < n) (sym legal.many) (turn_below t.fresh (fresh_turns (take k h.turns)) (fresh_turns h.turns) t.entry.0 (legal.turns k t e) (fresh_some h.turns k t e))

-- a turn with its form
abbrev pub triple : List FormView → Turn → Option Entered
triple entries t = option_map (entered t.entry t.fresh) (slice_get entries t.entry.0)

abbrev pub triples : List FormView → List Turn → List Entered
triples entries turns = filter_map (triple entries) turns

pub log_is : (h : History) → log h ≡ triples h.entries h.turns
unfolding log
log_is h = refl

pub triple_is : (entries : List FormView) (t : Turn) (x : FormView) → slice_get entries t.entry.0 ≡ Some x → triple entries t ≡ Some (entered t.entry t.fresh x)
triple_is entries t x e = ap (option_map (entered t.entry t.fresh)) e

pub triples_step : (entries : List FormView) (t : Turn) (ts : List Turn) (x : FormView) → slice_get entries t.entry.0 ≡ Some x
    → triples entries (t ∷ ts) ≡ entered t.entry t.fresh x ∷ triples entries ts
triples_step entries t ts x e = ap (λ o. cons_option o (triples entries ts)) (triple_is entries t x e)

pub triples_many : (entries : List FormView) (ts : List Turn) → NameEntries entries ts → length (triples entries ts) ≡ length ts
triples_many entries [] n = refl
triples_many entries (t ∷ ts) n =
    let x : (x : FormView) × (slice_get entries t.entry.0 ≡ Some x) = some_at entries t.entry.0 (n zero t refl) in
    ap length (triples_step entries t ts x.0 x.1) ∙ ap suc (triples_many entries ts (λ k u e. n (suc k) u e))

pub triples_at : (entries : List FormView) (ts : List Turn) → NameEntries entries ts → (k : ℕ) (t : Turn) → slice_get ts k ≡ Some t → slice_get (triples entries ts) k ≡ triple entries t
triples_at entries [] n k t e = cc
triples_at entries (u ∷ ts) n k t e =
    let x : (x : FormView) × (slice_get entries u.entry.0 ≡ Some x) = some_at entries u.entry.0 (n zero u refl) in
    ap (λ l. slice_get l k) (triples_step entries u ts x.0 x.1) ∙ go x.0 x.1 (λ j. triples_at entries ts (λ i v f. n (suc i) v f) j t) k e
  where
    go : (x : FormView) → slice_get entries u.entry.0 ≡ Some x → ((j : ℕ) → slice_get ts j ≡ Some t → slice_get (triples entries ts) j ≡ triple entries t) → (k : ℕ)
        → slice_get (u ∷ ts) k ≡ Some t → slice_get (entered u.entry u.fresh x ∷ triples entries ts) k ≡ triple entries t
    go x q more zero e = sym (triple_is entries u x q) ∙ ap (triple entries) (some_once e)
    go x q more (suc k) e = more k e

-- what holds of the first item and of each later one
of_each : {X : Type 0} (P : X → Type 0) (x : X) (xs : List X) (y : X) → P x → (Has xs y → P y) → Has (x ∷ xs) y → P y
of_each P x xs y p rest first = p
of_each P x xs y p rest (later h) = rest h

-- each triple has the form of the entry that it names
pub triples_from : (entries : List FormView) (ts : List Turn) (e : Entered) → Has (triples entries ts) e → slice_get entries e.entry.0 ≡ Some e.form
triples_from entries [] e h = elim h [ ]
triples_from entries (t ∷ ts) e h = go (slice_get entries t.entry.0) refl (triples_from entries ts e) h
  where
    go : (o : Option FormView) → slice_get entries t.entry.0 ≡ o → (Has (triples entries ts) e → slice_get entries e.entry.0 ≡ Some e.form)
        → Has (cons_option (option_map (entered t.entry t.fresh) o) (triples entries ts)) e → slice_get entries e.entry.0 ≡ Some e.form
    go None q rest h = rest h
    go (Some x) q rest h = of_each (λ (y : Entered). slice_get entries y.entry.0 ≡ Some y.form) (entered t.entry t.fresh x) (triples entries ts) e q rest h

-- entries that are added leave the triples of the turns so far
pub triples_stay : (entries more : List FormView) (ts : List Turn) → NameEntries entries ts → triples (entries ++ more) ts ≡ triples entries ts
triples_stay entries more [] n = refl
triples_stay entries more (t ∷ ts) n =
    let x : (x : FormView) × (slice_get entries t.entry.0 ≡ Some x) = some_at entries t.entry.0 (n zero t refl) in
    triples_step (entries ++ more) t ts x.0 (slice_left entries more t.entry.0 x.0 x.1)
    ∙ ap (λ l. entered t.entry t.fresh x.0 ∷ l) (triples_stay entries more ts (λ k u e. n (suc k) u e))
    ∙ sym (triples_step entries t ts x.0 x.1)

-- one turn more
pub triples_grow : (entries more : List FormView) (ts : List Turn) (t : Turn) (x : FormView) → NameEntries entries ts → slice_get (entries ++ more) t.entry.0 ≡ Some x
    → triples (entries ++ more) (ts ++ t ∷ []) ≡ triples entries ts ++ entered t.entry t.fresh x ∷ []
triples_grow entries more ts t x n e =
    filter_map-append (triple (entries ++ more)) ts (t ∷ [])
    ∙ ap (λ l. l ++ triples (entries ++ more) (t ∷ [])) (triples_stay entries more ts n)
    ∙ ap (λ l. triples entries ts ++ l) (triples_step (entries ++ more) t [] x e)
