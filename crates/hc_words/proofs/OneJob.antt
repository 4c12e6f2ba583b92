-- A list of words is spelled by at most one list of items, and so asks for at most one job.
use Rattle.std.proofs.Common.{◌≡◌, ℕ, true, cond, List, [], ◌∷◌, ◌++◌, codes, drop, Some, unwrap_or, refl, ap, ap₂, sym, ◌∙◌, true≢false, ◌==◌, arith}
use Rattle.std.specs.Str.{bytes_eq}
use Rattle.clap.proofs.WalkLemmas.{both}
use Rattle.hc_words.specs.Items.{Item, Text, are_lawful, command, flat, is_about, is_command, joined, name_of, spelled_all, split, text_at, seed, workers}
use Rattle.hc_words.specs.Jobs.{IsJob, number_of}
use Rattle.hc_words.specs.declared.job.Job.{Job}
use Rattle.hc_words.specs.declared.job.Verb.{Verb}
use Rattle.hc_words.specs.declared.job.Verb.TheVariants as verb
use Rattle.hc_words.proofs.Law.{no_hyphen}

abbrev first : List Text → Text
first [] = []
first (w ∷ ws) = w

abbrev first_byte : Text → ℕ
first_byte [] = 0
first_byte (d ∷ ds) = d

-- a command does not begin with a hyphen
no_dash : (v w : Text) → is_command v ≡ true → v ≡ 45 ∷ w → ⊥
no_dash [] w lawful e = true≢false (sym lawful)
no_dash (d ∷ ds) w lawful e = true≢false (ap (λ (t : Text). first_byte t == 45) (sym e) ∙ no_hyphen d ds lawful)

not_empty : (w : Text) (ws : List Text) → [] ≡ w ∷ ws → ⊥
not_empty w ws e = cc

-- the byte behind two hyphens
abbrev third_byte : Text → ℕ
third_byte (a ∷ b ∷ d ∷ ds) = d
third_byte other = 0

-- the words of different options differ
apart_joined_workers_split_workers : (n : Text) → codes "--workers=" ++ n ≡ codes "--workers" → ⊥
apart_joined_workers_split_workers n e = cc

apart_joined_workers_joined_seed : (n m : Text) → codes "--workers=" ++ n ≡ codes "--seed=" ++ m → ⊥
apart_joined_workers_joined_seed n m e = true≢false (ap (λ (t : Text). third_byte t == 119) e)

apart_joined_workers_split_seed : (n : Text) → codes "--workers=" ++ n ≡ codes "--seed" → ⊥
apart_joined_workers_split_seed n e = true≢false (ap (λ (t : Text). third_byte t == 119) e)

apart_joined_workers_flat : (n : Text) → codes "--workers=" ++ n ≡ codes "--flat" → ⊥
apart_joined_workers_flat n e = true≢false (ap (λ (t : Text). third_byte t == 119) e)

apart_split_workers_joined_workers : (m : Text) → codes "--workers" ≡ codes "--workers=" ++ m → ⊥
apart_split_workers_joined_workers m e = cc

apart_split_workers_joined_seed : (m : Text) → codes "--workers" ≡ codes "--seed=" ++ m → ⊥
apart_split_workers_joined_seed m e = true≢false (ap (λ (t : Text). third_byte t == 119) e)

apart_split_workers_split_seed : codes "--workers" ≡ codes "--seed" → ⊥
apart_split_workers_split_seed e = true≢false (ap (λ (t : Text). third_byte t == 119) e)

apart_split_workers_flat : codes "--workers" ≡ codes "--flat" → ⊥
apart_split_workers_flat e = true≢false (ap (λ (t : Text). third_byte t == 119) e)

apart_joined_seed_joined_workers : (n m : Text) → codes "--seed=" ++ n ≡ codes "--workers=" ++ m → ⊥
apart_joined_seed_joined_workers n m e = true≢false (ap (λ (t : Text). third_byte t == 115) e)

apart_joined_seed_split_workers : (n : Text) → codes "--seed=" ++ n ≡ codes "--workers" → ⊥
apart_joined_seed_split_workers n e = true≢false (ap (λ (t : Text). third_byte t == 115) e)

apart_joined_seed_split_seed : (n : Text) → codes "--seed=" ++ n ≡ codes "--seed" → ⊥
apart_joined_seed_split_seed n e = cc

apart_joined_seed_flat : (n : Text) → codes "--seed=" ++ n ≡ codes "--flat" → ⊥
apart_joined_seed_flat n e = true≢false (ap (λ (t : Text). third_byte t == 115) e)

apart_split_seed_joined_workers : (m : Text) → codes "--seed" ≡ codes "--workers=" ++ m → ⊥
apart_split_seed_joined_workers m e = true≢false (ap (λ (t : Text). third_byte t == 115) e)

apart_split_seed_split_workers : codes "--seed" ≡ codes "--workers" → ⊥
apart_split_seed_split_workers e = true≢false (ap (λ (t : Text). third_byte t == 115) e)

apart_split_seed_joined_seed : (m : Text) → codes "--seed" ≡ codes "--seed=" ++ m → ⊥
apart_split_seed_joined_seed m e = cc

apart_split_seed_flat : codes "--seed" ≡ codes "--flat" → ⊥
apart_split_seed_flat e = true≢false (ap (λ (t : Text). third_byte t == 115) e)

apart_flat_joined_workers : (m : Text) → codes "--flat" ≡ codes "--workers=" ++ m → ⊥
apart_flat_joined_workers m e = true≢false (ap (λ (t : Text). third_byte t == 102) e)

apart_flat_split_workers : codes "--flat" ≡ codes "--workers" → ⊥
apart_flat_split_workers e = true≢false (ap (λ (t : Text). third_byte t == 102) e)

apart_flat_joined_seed : (m : Text) → codes "--flat" ≡ codes "--seed=" ++ m → ⊥
apart_flat_joined_seed m e = true≢false (ap (λ (t : Text). third_byte t == 102) e)

apart_flat_split_seed : codes "--flat" ≡ codes "--seed" → ⊥
apart_flat_split_seed e = true≢false (ap (λ (t : Text). third_byte t == 102) e)

abbrev tail_of : List Text → List Text
tail_of [] = []
tail_of (w ∷ ws) = ws

pub items_once : (xs ys : List Item) → are_lawful xs ≡ true → are_lawful ys ≡ true → spelled_all xs ≡ spelled_all ys → xs ≡ ys
items_once [] [] a b e = refl
items_once [] (command w ∷ ys) a b e = absurd (not_empty _ _ e)
items_once [] (joined workers m ∷ ys) a b e = absurd (not_empty _ _ e)
items_once [] (split workers m ∷ ys) a b e = absurd (not_empty _ _ e)
items_once [] (joined seed m ∷ ys) a b e = absurd (not_empty _ _ e)
items_once [] (split seed m ∷ ys) a b e = absurd (not_empty _ _ e)
items_once [] (flat ∷ ys) a b e = absurd (not_empty _ _ e)
items_once (command v ∷ xs) [] a b e = absurd (not_empty _ _ (sym e))
items_once (joined workers n ∷ xs) [] a b e = absurd (not_empty _ _ (sym e))
items_once (split workers n ∷ xs) [] a b e = absurd (not_empty _ _ (sym e))
items_once (joined seed n ∷ xs) [] a b e = absurd (not_empty _ _ (sym e))
items_once (split seed n ∷ xs) [] a b e = absurd (not_empty _ _ (sym e))
items_once (flat ∷ xs) [] a b e = absurd (not_empty _ _ (sym e))
items_once (command v ∷ xs) (command w ∷ ys) a b e =
    ap₂ (λ (t : Text) (l : List Item). command t ∷ l) (ap first e) (items_once xs ys (both _ _ (both _ _ a).1).1 (both _ _ (both _ _ b).1).1 (ap tail_of e))
items_once (command v ∷ xs) (joined workers m ∷ ys) a b e = absurd (no_dash v _ (both _ _ a).0 (ap first e))
items_once (command v ∷ xs) (split workers m ∷ ys) a b e = absurd (no_dash v _ (both _ _ a).0 (ap first e))
items_once (command v ∷ xs) (joined seed m ∷ ys) a b e = absurd (no_dash v _ (both _ _ a).0 (ap first e))
items_once (command v ∷ xs) (split seed m ∷ ys) a b e = absurd (no_dash v _ (both _ _ a).0 (ap first e))
items_once (command v ∷ xs) (flat ∷ ys) a b e = absurd (no_dash v _ (both _ _ a).0 (ap first e))
items_once (joined workers n ∷ xs) (command w ∷ ys) a b e = absurd (no_dash w _ (both _ _ b).0 (sym (ap first e)))
items_once (joined workers n ∷ xs) (joined workers m ∷ ys) a b e =
    ap₂ (λ (t : Text) (l : List Item). joined workers t ∷ l) (ap (λ (t : List Text). drop 10 (first t)) e) (items_once xs ys (both _ _ (both _ _ a).1).1 (both _ _ (both _ _ b).1).1 (ap tail_of e))
items_once (joined workers n ∷ xs) (split workers m ∷ ys) a b e = absurd (apart_joined_workers_split_workers n (ap first e))
items_once (joined workers n ∷ xs) (joined seed m ∷ ys) a b e = absurd (apart_joined_workers_joined_seed n m (ap first e))
items_once (joined workers n ∷ xs) (split seed m ∷ ys) a b e = absurd (apart_joined_workers_split_seed n (ap first e))
items_once (joined workers n ∷ xs) (flat ∷ ys) a b e = absurd (apart_joined_workers_flat n (ap first e))
items_once (split workers n ∷ xs) (command w ∷ ys) a b e = absurd (no_dash w _ (both _ _ b).0 (sym (ap first e)))
items_once (split workers n ∷ xs) (joined workers m ∷ ys) a b e = absurd (apart_split_workers_joined_workers m (ap first e))
items_once (split workers n ∷ xs) (split workers m ∷ ys) a b e =
    ap₂ (λ (t : Text) (l : List Item). split workers t ∷ l) (ap (λ (t : List Text). first (tail_of t)) e) (items_once xs ys (both _ _ (both _ _ a).1).1 (both _ _ (both _ _ b).1).1 (ap (λ (t : List Text). tail_of (tail_of t)) e))
items_once (split workers n ∷ xs) (joined seed m ∷ ys) a b e = absurd (apart_split_workers_joined_seed m (ap first e))
items_once (split workers n ∷ xs) (split seed m ∷ ys) a b e = absurd (apart_split_workers_split_seed (ap first e))
items_once (split workers n ∷ xs) (flat ∷ ys) a b e = absurd (apart_split_workers_flat (ap first e))
items_once (joined seed n ∷ xs) (command w ∷ ys) a b e = absurd (no_dash w _ (both _ _ b).0 (sym (ap first e)))
items_once (joined seed n ∷ xs) (joined workers m ∷ ys) a b e = absurd (apart_joined_seed_joined_workers n m (ap first e))
items_once (joined seed n ∷ xs) (split workers m ∷ ys) a b e = absurd (apart_joined_seed_split_workers n (ap first e))
items_once (joined seed n ∷ xs) (joined seed m ∷ ys) a b e =
    ap₂ (λ (t : Text) (l : List Item). joined seed t ∷ l) (ap (λ (t : List Text). drop 7 (first t)) e) (items_once xs ys (both _ _ (both _ _ a).1).1 (both _ _ (both _ _ b).1).1 (ap tail_of e))
items_once (joined seed n ∷ xs) (split seed m ∷ ys) a b e = absurd (apart_joined_seed_split_seed n (ap first e))
items_once (joined seed n ∷ xs) (flat ∷ ys) a b e = absurd (apart_joined_seed_flat n (ap first e))
items_once (split seed n ∷ xs) (command w ∷ ys) a b e = absurd (no_dash w _ (both _ _ b).0 (sym (ap first e)))
items_once (split seed n ∷ xs) (joined workers m ∷ ys) a b e = absurd (apart_split_seed_joined_workers m (ap first e))
items_once (split seed n ∷ xs) (split workers m ∷ ys) a b e = absurd (apart_split_seed_split_workers (ap first e))
items_once (split seed n ∷ xs) (joined seed m ∷ ys) a b e = absurd (apart_split_seed_joined_seed m (ap first e))
items_once (split seed n ∷ xs) (split seed m ∷ ys) a b e =
    ap₂ (λ (t : Text) (l : List Item). split seed t ∷ l) (ap (λ (t : List Text). first (tail_of t)) e) (items_once xs ys (both _ _ (both _ _ a).1).1 (both _ _ (both _ _ b).1).1 (ap (λ (t : List Text). tail_of (tail_of t)) e))
items_once (split seed n ∷ xs) (flat ∷ ys) a b e = absurd (apart_split_seed_flat (ap first e))
items_once (flat ∷ xs) (command w ∷ ys) a b e = absurd (no_dash w _ (both _ _ b).0 (sym (ap first e)))
items_once (flat ∷ xs) (joined workers m ∷ ys) a b e = absurd (apart_flat_joined_workers m (ap first e))
items_once (flat ∷ xs) (split workers m ∷ ys) a b e = absurd (apart_flat_split_workers (ap first e))
items_once (flat ∷ xs) (joined seed m ∷ ys) a b e = absurd (apart_flat_joined_seed m (ap first e))
items_once (flat ∷ xs) (split seed m ∷ ys) a b e = absurd (apart_flat_split_seed (ap first e))
items_once (flat ∷ xs) (flat ∷ ys) a b e =
    ap (λ (l : List Item). flat ∷ l) (items_once xs ys (both _ _ (both true _ a).1).1 (both _ _ (both true _ b).1).1 (ap tail_of e))

-- the command with a name
abbrev named : Text → Verb
named n = cond (bytes_eq n (codes "verilog")) verb.Verilog (cond (bytes_eq n (codes "sim")) verb.Sim (cond (bytes_eq n (codes "both")) verb.Both (cond (bytes_eq n (codes "stat")) verb.Stat verb.Gen)))

named_name : (v : Verb) → named (name_of v) ≡ v
named_name verb.Verilog = refl
named_name verb.Sim = refl
named_name verb.Both = refl
named_name verb.Stat = refl
named_name verb.Gen = refl

verb_once : (v w : Verb) → ◌≡◌ (Some (name_of v)) (Some (name_of w)) → v ≡ w
verb_once v w e = sym (named_name v) ∙ ap (λ o. named (unwrap_or o [])) e ∙ named_name w

same_job : (a b : Job) → a.verb ≡ b.verb → a.workers ≡ b.workers → a.flat ≡ b.flat → a.seed ≡ b.seed → a ≡ b
same_job a b v w f s = grind arith

pub one_job : (words : List Text) (a b : Job) → IsJob words a → IsJob words b → a ≡ b
one_job words a b x y =
    let same : x.items ≡ y.items = items_once x.items y.items x.spelling.lawful y.spelling.lawful (sym x.spelling.words_are ∙ y.spelling.words_are) in
    same_job a b
    (verb_once a.verb b.verb (sym x.verb ∙ ap (text_at (codes "command")) same ∙ y.verb))
    (x.workers ∙ ap (number_of workers) same ∙ sym y.workers)
    (x.flat ∙ ap (is_about (codes "flat")) same ∙ sym y.flat) (x.seed ∙ ap (number_of seed) same ∙ sym y.seed)
