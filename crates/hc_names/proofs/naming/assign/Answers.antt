use Rattle.std.proofs.Common.{List, [], length, subst}
use Rattle.std.proofs.lemmas.Option.{slice_get_within}
use Rattle.hc_dbstate.specs.Elaboration.{walk}
use Rattle.hc_names.specs.Naming.{NameRow}
use Rattle.hc_names.specs.Steps.{NamesTo, requests}
use Rattle.hc_names.proofs.RowLaws.{named_on, fits_none}
use Rattle.hc_names.proofs.MarkLaws.{none_named}
use Rattle.hc_names.proofs.naming.assign.Goals as goal

pub name_calls-requires-clause-marks : goal.name_calls-requires-clause-marks
name_calls-requires-clause-marks c = none_named _ _ _ c.in_ok-marks.ensures

pub returns : goal.returns
returns c =
    let end = c.name_calls.new.names in
    let entries = c.args.db.now.entries in
    let steps = subst (λ (rows : List NameRow). NamesTo rows (requests (walk c.args.hier.now)) end) c.new-names.ensures c.in_ok-name_calls.ensures.named in
    let r = named_on entries (length entries) (λ i j. c.entries_unfold_once.ensures c.args.db.now i j c.legal.ensures) (walk c.args.hier.now) [] [] [] end
    (λ call h. let over = c.requires.calls call h in slice_get_within entries call.own.entry.0 over.form over.found) (fits_none entries (length entries)) steps in
    record { names = r.0; right = r.1; first = r.2 }
