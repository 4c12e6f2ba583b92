-- A history that is one turn longer is legal.
use Rattle.std.proofs.Common.{◌≡◌, ◌≢◌, ℕ, zero, suc, ◌+◌, ◌<◌, ◌≤◌, ◌⊎◌, Bool, true, false, List, [], ◌∷◌, ◌++◌, length, take, refl, sym, subst, ◌∙◌, ap, ap₂, inl, inr, arith, length-append, append-nil}
use Rattle.std.specs.Prelude.{slice_get, Some}
use Rattle.std.proofs.lemmas.List.{take-append-le}
use Rattle.std.proofs.lemmas.Option.{slice_get_within}
use Rattle.hc_signal.specs.Member.{Has}
use Rattle.hc_canon.specs.declared.form.EntryId.{EntryId}
use Rattle.hc_canon.specs.FormView.{FormView, IsForm}
use Rattle.hc_canon.proofs.LaidOut.{slice_cases, slice_right}
use Rattle.hc_dbstate.specs.declared.turns.Turn.{Turn}
use Rattle.hc_dbstate.specs.History.{History, fresh_turns, IsLegalTurn, IsLegal, turn, entered, log}
use Rattle.hc_dbstate.specs.Insertion.{IsInserted}
use Rattle.hc_dbstate.proofs.Triples.{some_once, fresh_after, legal_names, log_is, triples, triples_grow}

-- an element of a list that is one longer
abbrev pub InLonger : {X : Type 0} → List X → X → ℕ → X → Type 0
InLonger xs y k x = (slice_get xs k ≡ Some x) ⊎ ((k ≡ length xs) × (y ≡ x))

longer : {X : Type 0} (xs : List X) (y : X) (k : ℕ) (x : X) → slice_get (xs ++ y ∷ []) k ≡ Some x → InLonger xs y k x
longer {X} xs y k x e = elim (slice_cases xs (y ∷ []) k x e) [ inl a ↦ inl a | inr b ↦ inr (last b.0 b.1 b.2) ]
  where
    last : (j : ℕ) → k ≡ length xs + j → slice_get (y ∷ []) j ≡ Some x → (k ≡ length xs) × (y ≡ x)
    last zero q e = (omega (arith, q), some_once e)
    last (suc j) q e = cc

at_end : {X : Type 0} (xs : List X) (y : X) → slice_get (xs ++ y ∷ []) (length xs) ≡ Some y
at_end xs y = ap (slice_get (xs ++ y ∷ [])) (omega arith) ∙ slice_right xs (y ∷ []) zero

pub take_all : {X : Type 0} (xs : List X) → take (length xs) xs ≡ xs
take_all [] = refl
take_all (x ∷ xs) = ap (λ l. x ∷ l) (take_all xs)

module _ (h : History) (legal : IsLegal h) where
  turns_legal : (last : Turn) → IsLegalTurn (fresh_turns h.turns) last.entry.0 last.fresh → (k : ℕ) (t : Turn) → slice_get (h.turns ++ last ∷ []) k ≡ Some t
      → IsLegalTurn (fresh_turns (take k (h.turns ++ last ∷ []))) t.entry.0 t.fresh
  turns_legal last l k t e =
      elim (longer h.turns last k t e) [
        | inl a ↦ (let b : k < length h.turns = slice_get_within h.turns k t a in
            let c : k ≤ length h.turns = omega (arith, b) in
            subst (λ ts. IsLegalTurn (fresh_turns ts) t.entry.0 t.fresh) (sym (take-append-le k h.turns (last ∷ []) c)) (legal.turns k t a))
        | inr b ↦ (let c : k ≤ length h.turns = omega (arith, b.0) in
            let same : take k (h.turns ++ last ∷ []) ≡ h.turns = take-append-le k h.turns (last ∷ []) c ∙ ap (λ n. take n h.turns) b.0 ∙ take_all h.turns in
            subst (λ ts. IsLegalTurn (fresh_turns ts) t.entry.0 t.fresh) (sym same) (subst (λ (u : Turn). IsLegalTurn (fresh_turns h.turns) u.entry.0 u.fresh) b.1 l))
      ]

  legal_again : (id : EntryId) → id.0 < length h.entries → IsLegal (record { entries = h.entries; turns = h.turns ++ turn id false ∷ [] })
  legal_again id b = record {
    turns = turns_legal (turn id false) (subst (λ n. id.0 < n) legal.many b);
    many = legal.many ∙ sym (let e : fresh_turns (h.turns ++ turn id false ∷ []) ≡ fresh_turns h.turns + 0 = fresh_after h.turns (turn id false) in omega (arith, e));
    different = legal.different;
    forms = legal.forms;
    kids = legal.kids;
  }

  module _ (x : FormView) (form : IsForm x) (kids : (id : EntryId) → Has x.kids id → id.0 < length h.entries) (new : (k : ℕ) → slice_get h.entries k ≢ Some x) where
    apart : (i j : ℕ) (y : FormView) → slice_get (h.entries ++ x ∷ []) i ≡ Some y → slice_get (h.entries ++ x ∷ []) j ≡ Some y → i ≡ j
    apart i j y p q =
        elim (longer h.entries x i y p) [
          | inl a ↦ (elim (longer h.entries x j y q) [ inl b ↦ legal.different i j y a b | inr b ↦ absurd (new i (a ∙ ap Some (sym b.1))) ])
          | inr a ↦ (elim (longer h.entries x j y q) [ inl b ↦ absurd (new j (b ∙ ap Some (sym a.1))) | inr b ↦ a.0 ∙ sym b.0 ])
        ]

    kids_below : (k : ℕ) (y : FormView) (id : EntryId) → slice_get (h.entries ++ x ∷ []) k ≡ Some y → Has y.kids id → id.0 < k
    kids_below k y id p u =
        elim (longer h.entries x k y p) [
          | inl a ↦ legal.kids k y id a u
          | inr b ↦ subst (λ n. id.0 < n) (sym b.0) (kids id (subst (λ (z : FormView). Has z.kids id) (sym b.1) u))
        ]

    legal_fresh : (id : EntryId) → id.0 ≡ length h.entries → IsLegal (record { entries = h.entries ++ x ∷ []; turns = h.turns ++ turn id true ∷ [] })
    legal_fresh id b = record {
      turns = turns_legal (turn id true) (b ∙ legal.many);
      many = (let e : fresh_turns (h.turns ++ turn id true ∷ []) ≡ fresh_turns h.turns + 1 = fresh_after h.turns (turn id true) in
          let a : length (h.entries ++ x ∷ []) ≡ length h.entries + 1 = length-append h.entries (x ∷ []) in
          let m : length h.entries ≡ fresh_turns h.turns = legal.many in omega (arith, e, a, m));
      different = apart;
      forms = λ k y p. elim (longer h.entries x k y p) [ inl a ↦ legal.forms k y a | inr b ↦ subst IsForm b.1 form ];
      kids = kids_below;
    }

-- the log has one triple more
log_grows : (h : History) → IsLegal h → (entries : List FormView) (turns : List Turn) (more : List FormView) (id : EntryId) (fresh : Bool) (x : FormView)
    → entries ≡ h.entries ++ more → turns ≡ h.turns ++ turn id fresh ∷ [] → slice_get (h.entries ++ more) id.0 ≡ Some x
    → log (record { entries = entries; turns = turns }) ≡ log h ++ entered id fresh x ∷ []
log_grows h legal entries turns more id fresh x a b e =
    log_is (record { entries = entries; turns = turns }) ∙ ap₂ triples a b ∙ triples_grow h.entries more h.turns (turn id fresh) x (legal_names h legal) e
    ∙ ap (λ l. l ++ entered id fresh x ∷ []) (sym (log_is h))

-- an entry was equal
pub again_inserted : (h : History) (entries : List FormView) (turns : List Turn) (x : FormView) (id : EntryId) → IsLegal h → entries ≡ h.entries
    → turns ≡ h.turns ++ turn id false ∷ [] → slice_get entries id.0 ≡ Some x
    → IsLegal (record { entries = entries; turns = turns }) × IsInserted h (record { entries = entries; turns = turns }) x id
again_inserted h entries turns x id legal a b here =
    let there : slice_get h.entries id.0 ≡ Some x = ap (λ l. slice_get l id.0) (sym a) ∙ here in
    let same : h.entries ++ [] ≡ h.entries = append-nil h.entries in (
      subst (λ l. IsLegal (record { entries = l; turns = turns })) (sym a)
          (subst (λ l. IsLegal (record { entries = h.entries; turns = l })) (sym b) (legal_again h legal id (slice_get_within h.entries id.0 x there))),
      record {
        fresh = false;
        answer = there;
        entries = a;
        found = here;
        turns = b;
        log = log_grows h legal entries turns [] id false x (a ∙ sym same) b (ap (λ l. slice_get l id.0) same ∙ there);
      },
    )

-- no entry was equal
pub fresh_inserted : (h : History) (entries : List FormView) (turns : List Turn) (x : FormView) (id : EntryId) → IsLegal h → entries ≡ h.entries ++ x ∷ []
    → turns ≡ h.turns ++ turn id true ∷ [] → id.0 ≡ length h.entries
    → IsForm x → ((k : EntryId) → Has x.kids k → k.0 < length h.entries) → ((k : ℕ) → slice_get h.entries k ≢ Some x)
    → IsLegal (record { entries = entries; turns = turns }) × IsInserted h (record { entries = entries; turns = turns }) x id
fresh_inserted h entries turns x id legal a b at form kids new =
    let there : slice_get (h.entries ++ x ∷ []) id.0 ≡ Some x = ap (slice_get (h.entries ++ x ∷ [])) at ∙ at_end h.entries x in (
      subst (λ l. IsLegal (record { entries = l; turns = turns })) (sym a)
          (subst (λ l. IsLegal (record { entries = h.entries ++ x ∷ []; turns = l })) (sym b) (legal_fresh h legal x form kids new id at)),
      record {
        fresh = true;
        answer = (at, new);
        entries = a;
        found = ap (λ l. slice_get l id.0) a ∙ there;
        turns = b;
        log = log_grows h legal entries turns (x ∷ []) id true x a b there;
      },
    )
