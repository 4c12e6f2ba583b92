-- Words have a job or none.
use Rattle.std.proofs.Common.{ℕ, ◌≡◌, ◌≤◌, ◌⊎◌, inl, inr, Bool, true, false, ◌||◌, nat_le, leb-true, subst, List, [], ◌∷◌, map, codes, refl, sym, ap, ◌∙◌, true≢false}
use Rattle.std.specs.Prelude.{Some, unwrap_or}
use Rattle.std.specs.List.{list_any}
use Rattle.std.specs.Str.{bytes_eq}
use Rattle.std.specs.Str.Parse.{digits_value}
use Rattle.std.proofs.lemmas.Slice.Eq.{bytes_eq-Decides}
use Rattle.hc_words.specs.Items.{IsSpelledBy, Item, Text, commands, is_about, is_between, is_command, greatest, is_decimal, least, name_of, seed, text_at, workers}
use Rattle.hc_words.specs.Jobs.{HasNoJob, IsJob, number_of}
use Rattle.hc_words.specs.Form.{nothing_seen, passes}
use Rattle.hc_words.specs.declared.job.Job.{Job}
use Rattle.hc_words.specs.declared.job.Verb.{Verb}
use Rattle.hc_words.proofs.FormLaw.{no_job, spelled_by}
use Rattle.clap.proofs.WalkLemmas.{both}
use Rattle.hc_words.proofs.Law.{verb_lawful, workers_lawful}

-- one of some names
verb_among : (vs : List Verb) (v : Text) → list_any (λ name. bytes_eq name v) (map name_of vs) ≡ true → (w : Verb) × (name_of w ≡ v)
verb_among [] v e = absurd (true≢false (sym e))
verb_among (w ∷ vs) v e = by (bytes_eq (name_of w) v) refl e (λ later. verb_among vs v later)
  where
    by : (b : Bool) → bytes_eq (name_of w) v ≡ b → (b || list_any (λ name. bytes_eq name v) (map name_of vs)) ≡ true
        → (list_any (λ name. bytes_eq name v) (map name_of vs) ≡ true → (x : Verb) × (name_of x ≡ v)) → (x : Verb) × (name_of x ≡ v)
    by true is e' more = (w, (bytes_eq-Decides (name_of w) v).0 is)
    by false is e' more = more e'

spelled_job : (words : List Text) (xs : List Item) → IsSpelledBy words xs → (job : Job) × IsJob words job
spelled_job words xs s =
    let v : (v : Text) × (text_at (codes "command") xs ≡ Some v) × (is_command v ≡ true) = verb_lawful xs s.lawful s.has_command in
    let w : (w : Verb) × (name_of w ≡ v.0) = verb_among commands v.0 v.2 in (
      record { verb = w.0; workers = number_of workers xs; flat = is_about (codes "flat") xs; seed = number_of seed xs },
      record { items = xs; spelling = s; verb = v.1 ∙ ap Some (sym w.1); workers = refl; flat = refl; seed = refl },
    )

pub words_decided : (words : List Text) → HasNoJob words ⊎ ((job : Job) × IsJob words job)
words_decided words = by (passes nothing_seen words) refl
  where
    by : (b : Bool) → passes nothing_seen words ≡ b → HasNoJob words ⊎ ((job : Job) × IsJob words job)
    by true e = (let s : (xs : List Item) × IsSpelledBy words xs = spelled_by words e in inr (spelled_job words s.0 s.1))
    by false e = inl (no_job words e)

between : (n : Text) → is_between (least workers) (greatest workers) n ≡ true → (1 ≤ digits_value 10 n) × (digits_value 10 n ≤ 64)
between n e =
    let range = both (nat_le 1 (digits_value 10 n)) (nat_le (digits_value 10 n) 64) (both (is_decimal n) _ e).1 in
    (leb-true _ _ range.0, leb-true _ _ range.1)

pub few_workers : (words : List Text) (job : Job) → IsJob words job → (1 ≤ job.workers) × (job.workers ≤ 64)
few_workers words job is =
    subst (λ (n : ℕ). (1 ≤ n) × (n ≤ 64)) (sym is.workers) (between (unwrap_or (text_at (codes "workers") is.items) (codes "1")) (workers_lawful is.items is.spelling.lawful))
