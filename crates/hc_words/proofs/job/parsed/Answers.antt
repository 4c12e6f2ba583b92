use Rattle.std.proofs.Common.{◌≡◌, List, map, codes, ap, ap₂, ◌∙◌, true, string_bytes, Global}
use Rattle.std.proofs.lemmas.Result.{IfErr-weaker, IfOk-weaker}
use Rattle.clap.specs.Words.{app_of, first_of, found_of, is_simple, matches_of, one_of, takes}
use Rattle.clap.proofs.WalkLemmas.{first_value-rows, one_text-rows}
use Rattle.hc_words.specs.Items.{IsSpelledBy, Item}
use Rattle.hc_words.proofs.Steps.{simple}
use Rattle.hc_words.proofs.Law.{Parses, has_item, law}
use Rattle.hc_words.proofs.job.parsed.Goals as goal

pub returns : goal.returns
returns c =
    let words = map (string_bytes {Z = Global}) c.args.words.now in
    let is = c.in_ok-program.ensures.program in
    let parse = c.try_get_matches_from in
    let some = c.requires in
    let law_of : (xs : List Item) → IsSpelledBy words xs → Parses is.0 xs = λ xs s. law is.0 is.1 xs s.lawful (has_item xs s.has_command) in
    let taken : takes (app_of c.in_ok-program.program) words ≡ true = ap₂ takes is.2 some.1.words_are ∙ (law_of some.0 some.1).taken in
    let simple_is = ap is_simple is.2 ∙ simple is.0 in
    record {
      ok = IfOk-weaker parse.result _ _ (λ m h xs s.
          let same = (h simple_is).0 ∙ ap₂ matches_of is.2 s.words_are in
          let parses = law_of xs s in
          record {
            verb = first_value-rows (found_of m) (codes "command") ∙ ap (first_of (codes "command")) same ∙ parses.verb;
            workers = one_text-rows (found_of m) (codes "workers") ∙ ap (one_of (codes "workers")) same ∙ parses.workers;
            seed = one_text-rows (found_of m) (codes "seed") ∙ ap (one_of (codes "seed")) same ∙ parses.seed;
            flat = one_text-rows (found_of m) (codes "flat") ∙ ap (one_of (codes "flat")) same ∙ parses.flat;
          }) parse.ensures.matches;
      err = IfErr-weaker parse.result _ _ (λ e h. h taken) parse.ensures.passes;
    }
