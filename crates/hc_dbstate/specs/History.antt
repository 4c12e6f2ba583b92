-- Histories of insertions, and their logs.
use Rattle.std.specs.Prelude.{◌≡◌, ℕ, ◌<◌, Bool, true, false, List, count_by, filter_map, length, take, slice_get, option_map, Some}
use Rattle.hc_signal.specs.Member.{Has}
use Rattle.hc_canon.specs.declared.form.EntryId.{EntryId}
use Rattle.hc_canon.specs.FormView.{FormView, IsForm}
use Rattle.hc_dbstate.specs.declared.turns.Turn.{Turn}
use Rattle.hc_dbstate.specs.declared.turns.Entered.{Entered}

-- the entries in the order of their places, and a turn for each insertion
pub record History : Type 0 where
  pub entries : List FormView
  pub turns : List Turn

-- how many of the turns are fresh
abbrev pub fresh_turns : List Turn → ℕ
fresh_turns turns = count_by (λ (t : Turn). t.fresh) turns

-- A turn after so many fresh ones: a fresh one names the next place, and any other one names an entry that is there.
abbrev pub IsLegalTurn : ℕ → ℕ → Bool → Type 0
IsLegalTurn before entry true = entry ≡ before
IsLegalTurn before entry false = entry < before

-- Each turn is legal; there are as many entries as fresh turns; no two entries are equal; each is a form, and the entries of its
-- instances stand below it.
pub record IsLegal (h : History) : Type 0 where
  pub turns : (k : ℕ) (t : Turn) → slice_get h.turns k ≡ Some t → IsLegalTurn (fresh_turns (take k h.turns)) t.entry.0 t.fresh
  pub many : length h.entries ≡ fresh_turns h.turns
  pub different : (i j : ℕ) (form : FormView) → slice_get h.entries i ≡ Some form → slice_get h.entries j ≡ Some form → i ≡ j
  pub forms : (k : ℕ) (form : FormView) → slice_get h.entries k ≡ Some form → IsForm form
  pub kids : (k : ℕ) (form : FormView) (id : EntryId) → slice_get h.entries k ≡ Some form → Has form.kids id → id.0 < k

abbrev pub turn : EntryId → Bool → Turn
turn id fresh = record { entry = id; fresh = fresh }

abbrev pub entered : EntryId → Bool → FormView → Entered
entered id fresh form = record { entry = id; fresh = fresh; form = form }

-- the turns in order, each with the form of the entry that it names
unfoldable pub log : History → List Entered
log h = filter_map (λ (t : Turn). option_map (entered t.entry t.fresh) (slice_get h.entries t.entry.0)) h.turns
