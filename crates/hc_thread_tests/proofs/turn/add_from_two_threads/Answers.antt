use Rattle.std.proofs.Common.{◌≡◌, ◌+◌, length, ap, ◌∙◌, arith, length-append}
use Rattle.hc_turn.specs.declared.view.View.{View}
use Rattle.hc_turn.specs.Passes.{mine, share}
use Rattle.hc_turn.proofs.Places.{length-owned}
use Rattle.hc_thread_tests.proofs.turn.add_from_two_threads.Goals as goal

pub returns : goal.returns
returns g c =
    let one = c.join-one.result.0.0 in
    let two = c.join-one.result.1.0 in
    let first = c.join-one.ensures.first in
    let second = c.join-one.ensures.second in
    let joined = c.join-pass.ensures.pass in
    let whole : share c.join-pass.result ≡ 64 = ap (λ (v : View _). v.share) joined ∙ omega (arith, first.2, second.2) in
    let parts : length (mine c.join-pass.result) ≡ length (mine one) + length (mine two) = ap (λ (v : View _). length v.mine) joined ∙ length-append (mine one) (mine two) in
    let owned = length-owned c.finish.result.items.items (mine c.join-pass.result) (c.finish.ensures.all whole) in
    let m : length (mine one) ≡ 100 = first.3 c.if-not-first.false in
    let n : length (mine two) ≡ 100 = second.3 c.if-not-second.false in
    omega arith
