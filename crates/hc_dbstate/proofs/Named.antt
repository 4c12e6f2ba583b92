-- Each entry of a legal history is named by a turn that was fresh.
use Rattle.std.proofs.Common.{◌≡◌, ◌≤◌, ◌<◌, ◌+◌, ℕ, zero, suc, Bool, true, false, cond, ◌==◌, List, [], ◌∷◌, length, take, refl, sym, ap, subst, ◌∙◌, arith}
use Rattle.std.specs.Prelude.{Some, slice_get}
use Rattle.std.proofs.lemmas.Bool.Decides.{Decides-eqb}
use Rattle.std.proofs.lemmas.List.Sums.{sum_by-cons}
use Rattle.hc_signal.specs.Member.{Has, first, later}
use Rattle.hc_canon.specs.declared.form.EntryId.{EntryId}
use Rattle.hc_dbstate.specs.declared.turns.Turn.{Turn}
use Rattle.hc_dbstate.specs.History.{History, IsLegal, IsLegalTurn, fresh_turns}

abbrev entry : ℕ → EntryId
entry k = record { 0 = k }

-- a fresh turn among some turns names the entry
abbrev pub IsNamed : List Turn → EntryId → Type 0
IsNamed ts id = (t : Turn) × Has ts t × (t.fresh ≡ true) × (t.entry ≡ id)

named_later : (t : Turn) (ts : List Turn) (id : EntryId) → IsNamed ts id → IsNamed (t ∷ ts) id
named_later t ts id n = (n.0, later n.1, n.2, n.3)

fresh_cons : (t : Turn) (ts : List Turn) → fresh_turns (t ∷ ts) ≡ cond t.fresh 1 0 + fresh_turns ts
fresh_cons t ts = sum_by-cons (λ (u : Turn). cond u.fresh 1 0) t ts

abbrev AreLegalFrom : ℕ → List Turn → Type 0
AreLegalFrom before ts = (k : ℕ) (t : Turn) → slice_get ts k ≡ Some t → IsLegalTurn (before + fresh_turns (take k ts)) t.entry.0 t.fresh

-- the places between the fresh turns before some turns and those after them are named
abbrev AreNamed : ℕ → List Turn → Type 0
AreNamed before ts = (n : ℕ) → before ≤ n → n < before + fresh_turns ts → IsNamed ts (entry n)

module _ (t : Turn) (ts : List Turn) (before : ℕ) (legal : AreLegalFrom before (t ∷ ts)) where
  legal_rest : (more : ℕ) → cond t.fresh 1 0 ≡ more → AreLegalFrom (before + more) ts
  legal_rest more is k u e =
      let c : fresh_turns (t ∷ take k ts) ≡ cond t.fresh 1 0 + fresh_turns (take k ts) = fresh_cons t (take k ts) in
      let all : before + fresh_turns (t ∷ take k ts) ≡ before + more + fresh_turns (take k ts) = omega (arith, c, is) in
      subst (λ (m : ℕ). IsLegalTurn m u.entry.0 u.fresh) all (legal (suc k) u e)

  named_first : t.fresh ≡ true → t.entry ≡ entry before
  named_first is =
      let at : IsLegalTurn (before + fresh_turns []) t.entry.0 true = subst (λ (f : Bool). IsLegalTurn (before + fresh_turns []) t.entry.0 f) is (legal zero t refl) in
      let none : fresh_turns [] ≡ 0 = refl in
      let place : t.entry.0 ≡ before = omega (arith, at, none) in
      ap entry place

  named_more : ((more : ℕ) → AreLegalFrom more ts → AreNamed more ts) → (b : Bool) → t.fresh ≡ b → AreNamed before (t ∷ ts)
  named_more next true is n low high = by (n == before) refl
    where
      by : (b : Bool) → (n == before) ≡ b → IsNamed (t ∷ ts) (entry n)
      by true e = (t, first, is, named_first is ∙ ap entry (sym ((Decides-eqb n before).0 e)))
      by false e =
          let one : ◌≡◌ {A = ℕ} (cond t.fresh 1 0) 1 = ap (λ b. cond b 1 0) is in
          let apart : n ≡ before → ⊥ = λ same. (let yes : (n == before) ≡ true = (Decides-eqb n before).1 same in cc) in
          let count = fresh_cons t ts in
          named_later t ts (entry n) (next (before + 1) (legal_rest 1 one) n (omega (arith, low, apart)) (omega (arith, high, count, one)))
  named_more next false is n low high =
      let none : ◌≡◌ {A = ℕ} (cond t.fresh 1 0) 0 = ap (λ b. cond b 1 0) is in
      let count = fresh_cons t ts in
      named_later t ts (entry n) (next (before + 0) (legal_rest 0 none) n (omega (arith, low)) (omega (arith, high, count, none)))

named_from : (ts : List Turn) (before : ℕ) → AreLegalFrom before ts → AreNamed before ts
named_from [] before legal n low high = let none : fresh_turns [] ≡ 0 = refl in absurd (omega (arith, none, low, high))
named_from (t ∷ ts) before legal n low high = named_more t ts before legal (λ more l. named_from ts more l) t.fresh refl n low high

zero_before : (n : ℕ) → n ≡ 0 + n
zero_before n = omega arith

-- each entry is named
pub entry_named : (h : History) → IsLegal h → (n : ℕ) → n < length h.entries → IsNamed h.turns (entry n)
entry_named h legal n lt =
    let many = legal.many in
    named_from h.turns 0 (λ k t e. subst (λ (m : ℕ). IsLegalTurn m t.entry.0 t.fresh) (zero_before (fresh_turns (take k h.turns))) (legal.turns k t e)) n (omega arith) (omega (arith, lt, many))
