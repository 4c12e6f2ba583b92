use Rattle.std.proofs.Common.{◌≡◌, ◌+◌, ◌<◌, ◌∷◌, ap, arith, length, sym, take, ◌∙◌}
use Rattle.std.proofs.lemmas.List.{length_push}
use Rattle.std.specs.Vec.Iter.{into_iter_items}
use Rattle.hc_workers.proofs.Writing.{one_written, place_within, some_left, yields_more}
use Rattle.hc_workers.proofs.levels.write.Goals as goal

pub put-requires : goal.put-requires
put-requires c =
    let steps : into_iter_items c.list.out-iterator ≡ c.in-Some.out ∷ into_iter_items c.next.new.self = c.in-Some.ensures.steps.0 in
    let some : length c.list.yielded < length c.args.list.items = some_left c.list.yielded _ c.args.list.items c.in-Some.out _ steps
    (c.list.invariant.0 ∙ c.into_iter-out-iterator.ensures.into_iter_gives.0) in
    let next : c.list.next ≡ length c.list.yielded = c.list.invariant.1 in
    let many : length c.args.list.items ≡ length c.args.places.now = c.requires.many in
    place_within c.args.outs.now c.list.outs c.args.places.now (take c.list.next c.args.places.now) c.list.next c.list.yielded c.requires.within (omega arith) c.list.invariant.2

pub list-preserved : goal.list-preserved
list-preserved c =
    let steps : into_iter_items c.list.out-iterator ≡ c.in-Some.out ∷ into_iter_items c.next.new.self = c.in-Some.ensures.steps.0 in
    let some : length c.list.yielded < length c.args.list.items = some_left c.list.yielded _ c.args.list.items c.in-Some.out _ steps
    (c.list.invariant.0 ∙ c.into_iter-out-iterator.ensures.into_iter_gives.0) in
    let next : c.list.next ≡ length c.list.yielded = c.list.invariant.1 in
    let many : length c.args.list.items ≡ length c.args.places.now = c.requires.many in (
      yields_more c.list.yielded _ _ c.in-Some.out _ steps c.list.invariant.0,
      ap (λ n. n + 1) c.list.invariant.1 ∙ sym (length_push c.list.yielded c.in-Some.out),
      c.put.ensures ∙ one_written c.args.outs.now c.list.outs c.args.places.now c.list.next c.list.yielded c.in-Some.out (omega arith) c.list.invariant.1 c.list.invariant.2,
    )
