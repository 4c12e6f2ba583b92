use Rattle.std.proofs.Common.{◌≡◌, ◌≢◌, [], Some, ap, ◌∙◌}
use Rattle.std.specs.Prelude.{slice_get}
use Rattle.std.specs.Option.{option_map_or}
use Rattle.std.proofs.lemmas.List.Elements.{All-nil}
use Rattle.hc_dbstate.specs.Places.{key_of, low_bits, places_from}
use Rattle.hc_dbstate.proofs.Indexed.{none_elsewhere, on_none}
use Rattle.hc_dbstate.proofs.insert.place_of.Goals as goal

pub returns-in-Some : goal.returns-in-Some
returns-in-Some c =
    let key : c.low_bits.result ≡ key_of c.args.bits c.args.form.now = c.low_bits.ensures ∙ ap (low_bits c.args.bits) c.requires.hash in
    let listed : c.in-Some.listed.now.items ≡ places_from c.args.bits 0 c.low_bits.result c.args.entries.now = ap (λ o. option_map_or (λ v. v.items) o []) c.in-Some.ensures.value
    ∙ c.requires.index c.low_bits.result in
    on_none _ _ _ (none_elsewhere c.args.bits c.low_bits.result c.args.entries.now _ c.args.form.now (c.as_slice.ensures.value ∙ listed) key) c.find.result c.find.ensures

pub returns-in-None : goal.returns-in-None
returns-in-None c =
    let key : c.low_bits.result ≡ key_of c.args.bits c.args.form.now = c.low_bits.ensures ∙ ap (low_bits c.args.bits) c.requires.hash in
    let listed : [] ≡ places_from c.args.bits 0 c.low_bits.result c.args.entries.now = ap (λ o. option_map_or (λ v. v.items) o []) c.in-None.ensures.value ∙ c.requires.index c.low_bits.result in
    none_elsewhere c.args.bits c.low_bits.result c.args.entries.now [] c.args.form.now listed key (All-nil (λ p. slice_get c.args.entries.now p ≢ Some c.args.form.now))
