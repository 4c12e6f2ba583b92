use Rattle.std.proofs.lemmas.Option.{slice_get_within}
use Rattle.hc_canon_tests.proofs.dbstate.insert.Goals as goal

pub insert-requires : goal.insert-requires
insert-requires g c = record { kids = λ id h. elim (c.in_ok-canon.ensures.known id h) [ ] }

pub get-requires : goal.get-requires
get-requires g c = slice_get_within _ _ _ c.in-Ok.ensures.ok.found
