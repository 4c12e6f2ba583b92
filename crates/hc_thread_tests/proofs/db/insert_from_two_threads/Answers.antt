use Rattle.std.proofs.Common.{◌≡◌, ◌+◌, length, ap, ◌∙◌, arith, length-append}
use Rattle.std.proofs.lemmas.List.FromFn.{length-range_with_len}
use Rattle.std.proofs.lemmas.List.Sorted.{length_permutation}
use Rattle.hc_turn.specs.declared.view.View.{View}
use Rattle.hc_turn.specs.Views.{places_of}
use Rattle.hc_turn.specs.Passes.{mine, share}
use Rattle.hc_dbstate.specs.History.{log}
use Rattle.hc_thread_tests.proofs.db.insert_from_two_threads.Goals as goal

pub returns : goal.returns
returns g c =
    let one = c.join-one.result.0.0 in
    let two = c.join-one.result.1.0 in
    let first = c.join-one.ensures.first in
    let second = c.join-one.ensures.second in
    let joined = c.join-pass.ensures.pass in
    let turns = log c.finish.result in
    let whole : share c.join-pass.result ≡ 64 = ap (λ (v : View _). v.share) joined ∙ omega (arith, first.2, second.2) in
    let parts : length (mine c.join-pass.result) ≡ length (mine one) + length (mine two) = ap (λ (v : View _). length v.mine) joined ∙ length-append (mine one) (mine two) in
    let places : length (mine c.join-pass.result) ≡ length (places_of turns) = length_permutation (places_of turns) (mine c.join-pass.result) (c.finish.ensures.all whole) in
    let many : length (places_of turns) ≡ length turns = length-range_with_len 0 (length turns) in
    let m : length (mine one) ≡ 100 = first.3 c.if-not-first.false in
    let n : length (mine two) ≡ 100 = second.3 c.if-not-second.false in
    omega arith
