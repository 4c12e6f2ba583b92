-- The forms of a log, inserted one after another, get its answers; so a log fixes the history.
use Rattle.std.proofs.Common.{◌≡◌, ℕ, zero, suc, ◌+◌, ◌<◌, ◌≤◌, Bool, true, false, cond, List, [], ◌∷◌, ◌++◌, map, length, take, refl, sym, subst, ◌∙◌, ap, arith, append_assoc, append-nil}
use Rattle.std.specs.Prelude.{slice_get, Some}
use Rattle.std.proofs.lemmas.List.{take-append-le}
use Rattle.std.proofs.lemmas.Option.{slice_get_within}
use Rattle.hc_canon.specs.declared.form.EntryId.{EntryId}
use Rattle.hc_canon.specs.FormView.{FormView}
use Rattle.hc_canon.proofs.LaidOut.{slice_right}
use Rattle.hc_dbstate.specs.declared.turns.Turn.{Turn}
use Rattle.hc_dbstate.specs.declared.turns.Entered.{Entered}
use Rattle.hc_dbstate.specs.History.{History, fresh_turns, IsLegalTurn, IsLegal, turn, entered, log}
use Rattle.hc_dbstate.specs.Insertion.{entries_after, Replays}
use Rattle.hc_dbstate.proofs.Triples.{some_once, some_at, fresh_after, fresh_some, legal_names, NameEntries, log_is, triples, triples_step}
use Rattle.hc_dbstate.proofs.Grows.{take_all}

-- the first entries
take_one : {X : Type 0} (xs : List X) (n : ℕ) (x : X) → slice_get xs n ≡ Some x → take n xs ++ x ∷ [] ≡ take (n + 1) xs
take_one [] n x e = cc
take_one (y ∷ xs) zero x e = ap (λ z. z ∷ []) (sym (some_once e))
take_one (y ∷ xs) (suc n) x e = (let q : suc n + 1 ≡ suc (n + 1) = omega arith in ap (λ l. y ∷ l) (take_one xs n x e) ∙ ap (λ k. take k (y ∷ xs)) (sym q))

take_at : {X : Type 0} (xs : List X) (n k : ℕ) → k < n → slice_get (take n xs) k ≡ slice_get xs k
take_at xs zero k b = absurd (omega (arith, b))
take_at [] (suc n) k b = refl
take_at (x ∷ xs) (suc n) zero b = refl
take_at (x ∷ xs) (suc n) (suc k) b = take_at xs n k (omega (arith, b))

take_long : {X : Type 0} (xs : List X) (n : ℕ) → n ≤ length xs → length (take n xs) ≡ n
take_long xs zero b = refl
take_long [] (suc n) b = absurd (omega (arith, b))
take_long (x ∷ xs) (suc n) b = ap suc (take_long xs n (omega (arith, b)))

module _ (h : History) (legal : IsLegal h) where
  -- one turn, by its kind
  turn_replays : (f : Bool) (before : ℕ) (id : EntryId) (x : FormView) (rest : List Entered) → IsLegalTurn before id.0 f → before ≤ length h.entries → slice_get h.entries id.0 ≡ Some x
      → Replays (take (before + cond f 1 0) h.entries) rest h.entries → Replays (take before h.entries) (entered id f x ∷ rest) h.entries
  turn_replays true before id x rest e m s r =
      let q : id.0 ≡ before = e in
      let at : slice_get h.entries before ≡ Some x = ap (slice_get h.entries) (sym q) ∙ s in (
        (
          q ∙ sym (take_long h.entries before m),
          λ j u. (let b : j < length (take before h.entries) = slice_get_within (take before h.entries) j x u in
              let long : length (take before h.entries) ≡ before = take_long h.entries before m in
              let c : j < before = omega (arith, b, long) in
              let same : j ≡ before = legal.different j before x (sym (take_at h.entries before j c) ∙ u) at in
              omega (arith, c, same)),
        ),
        subst (λ l. Replays l rest h.entries) (sym (take_one h.entries before x at)) r,
      )
  turn_replays false before id x rest e m s r =
      (take_at h.entries before id.0 e ∙ s, subst (λ n. Replays (take n h.entries) rest h.entries) (omega arith) r)

  rest_replays : (front rest : List Turn) → h.turns ≡ front ++ rest → NameEntries h.entries rest → Replays (take (fresh_turns front) h.entries) (triples h.entries rest) h.entries
  rest_replays front [] q n =
      let all : fresh_turns front ≡ length h.entries = ap fresh_turns (sym (append-nil front) ∙ sym q) ∙ sym legal.many in
      sym (ap (λ n. take n h.entries) all ∙ take_all h.entries)
  rest_replays front (t ∷ rest) q n =
      let at : slice_get h.turns (length front) ≡ Some t = ap (λ l. slice_get l (length front)) q ∙ ap (slice_get (front ++ t ∷ rest)) (omega arith) ∙ slice_right front (t ∷ rest) zero in
      let before : take (length front) h.turns ≡ front = ap (take (length front)) q ∙ take-append-le (length front) front (t ∷ rest) (omega arith) ∙ take_all front in
      let l : IsLegalTurn (fresh_turns front) t.entry.0 t.fresh = subst (λ ts. IsLegalTurn (fresh_turns ts) t.entry.0 t.fresh) before (legal.turns (length front) t at) in
      let some : fresh_turns (take (length front) h.turns) + cond t.fresh 1 0 ≤ fresh_turns h.turns = fresh_some h.turns (length front) t at in
      let b : fresh_turns (take (length front) h.turns) ≡ fresh_turns front = ap fresh_turns before in
      let m : length h.entries ≡ fresh_turns h.turns = legal.many in
      let few : fresh_turns front ≤ length h.entries = omega (arith, some, b, m) in
      let x : (x : FormView) × (slice_get h.entries t.entry.0 ≡ Some x) = some_at h.entries t.entry.0 (n zero t refl) in
      let r : Replays (take (fresh_turns (front ++ t ∷ [])) h.entries) (triples h.entries rest) h.entries = rest_replays (front ++ t ∷ []) rest
      (q ∙ sym (append_assoc front (t ∷ []) rest)) (λ k u s. n (suc k) u s) in
      subst (λ l. Replays (take (fresh_turns front) h.entries) l h.entries) (sym (triples_step h.entries t rest x.0 x.1))
      (turn_replays t.fresh (fresh_turns front) t.entry x.0 (triples h.entries rest) l few x.1 (subst (λ n. Replays (take n h.entries) (triples h.entries rest) h.entries) (fresh_after front t) r))

  pub replays : Replays [] (log h) h.entries
  replays = subst (λ l. Replays [] l h.entries) (sym (log_is h)) (rest_replays [] h.turns refl (legal_names h legal))

-- a log leaves one list of entries
one_end : (entries : List FormView) (rest : List Entered) (end other : List FormView) → Replays entries rest end → Replays entries rest other → end ≡ other
one_end entries [] end other a b = a ∙ sym b
one_end entries (e ∷ rest) end other a b = one_end (entries_after entries e.form e.fresh) rest end other a.1 b.1

-- the turns of a log
turns_of : (entries : List FormView) (ts : List Turn) → NameEntries entries ts → map (λ (e : Entered). turn e.entry e.fresh) (triples entries ts) ≡ ts
turns_of entries [] n = refl
turns_of entries (t ∷ ts) n =
    let x : (x : FormView) × (slice_get entries t.entry.0 ≡ Some x) = some_at entries t.entry.0 (n zero t refl) in
    ap (map (λ (e : Entered). turn e.entry e.fresh)) (triples_step entries t ts x.0 x.1) ∙ ap (λ l. t ∷ l) (turns_of entries ts (λ k u e. n (suc k) u e))

pub log_single : (h g : History) → IsLegal h → IsLegal g → log h ≡ log g → h ≡ g
log_single h g a b e =
    let entries : h.entries ≡ g.entries = one_end [] (log g) h.entries g.entries (subst (λ l. Replays [] l h.entries) e (replays h a)) (replays g b) in
    let same : triples h.entries h.turns ≡ triples g.entries g.turns = sym (log_is h) ∙ e ∙ log_is g in
    let turns : h.turns ≡ g.turns = sym (turns_of h.entries h.turns (legal_names h a)) ∙ ap (map (λ (e : Entered). turn e.entry e.fresh)) same ∙ turns_of g.entries g.turns (legal_names g b) in
    λ i. record { entries = entries i; turns = turns i }

-- entries stay where they are
abbrev pub Extends : List FormView → List FormView → Type 0
Extends old new = (more : List FormView) × (new ≡ old ++ more)

extends_after : (entries : List FormView) (x : FormView) (f : Bool) (end : List FormView) → Extends (entries_after entries x f) end → Extends entries end
extends_after entries x false end e = e
extends_after entries x true end e = (x ∷ e.0, e.1 ∙ append_assoc entries (x ∷ []) e.0)

rest_extends : (entries : List FormView) (rest : List Entered) (end : List FormView) → Replays entries rest end → Extends entries end
rest_extends entries [] end r = ([], r ∙ sym (append-nil entries))
rest_extends entries (e ∷ rest) end r = extends_after entries e.form e.fresh end (rest_extends (entries_after entries e.form e.fresh) rest end r.1)

front_extends : (entries : List FormView) (front rest : List Entered) (mid end : List FormView) → Replays entries front mid → Replays entries (front ++ rest) end → Extends mid end
front_extends entries [] rest mid end a b = subst (λ l. Extends l end) (sym a) (rest_extends entries rest end b)
front_extends entries (e ∷ front) rest mid end a b = front_extends (entries_after entries e.form e.fresh) front rest mid end a.1 b.1

pub log_grown : (h g : History) (rest : List Entered) → IsLegal h → IsLegal g → log g ≡ log h ++ rest → Extends h.entries g.entries
log_grown h g rest a b e = front_extends [] (log h) rest h.entries g.entries (replays h a) (subst (λ l. Replays [] l g.entries) e (replays g b))
