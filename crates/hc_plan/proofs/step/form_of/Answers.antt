use Rattle.std.proofs.Common.{◌≡◌, Global, ap, length, subst, ◌∙◌}
use Rattle.hc_canon.specs.FormView.{FormView}
use Rattle.hc_paths.specs.declared.kinds.Paths.{Paths}
use Rattle.hc_plan.specs.Stepping.{IsReady, outs_of}
use Rattle.hc_plan.proofs.Outs.{Found, kids_found, kids_many, row_looped, row_ready}
use Rattle.hc_plan.proofs.step.form_of.Goals as goal

pub canon-requires-clause-kids : goal.canon-requires-clause-kids
canon-requires-clause-kids c =
    let outs = outs_of c.args.outs.now in
    let found : Found Global = (c.in-Some.ids, c.in-Some.kids) in
    let kids = c.args.row.now.kids in
    let ids = c.in_ok-ids in
    let are = kids_found outs c.as_slice.result.now kids ids.field-0 found c.as_slice.ensures c.in-Some.is ids.ensures in
    ap length c.as_slice-in-Ok.ensures.value ∙ kids_many outs kids found are ∙ c.requires.many

pub returns-in-Ok-clause-ready : goal.returns-in-Ok-clause-ready
returns-in-Ok-clause-ready c form p same =
    let outs = outs_of c.args.outs.now in
    let row = c.args.row.now in
    let found : Found Global = (c.in-Some.ids, c.in-Some.kids) in
    let ids = c.in_ok-ids in
    let are = kids_found outs c.as_slice.result.now row.kids ids.field-0 found c.as_slice.ensures c.in-Some.is ids.ensures in
    let made = c.in_ok-form-in-Ok.form in
    let one = c.as_slice-in-Ok in
    let two = c.as_slice-2 in
    let own = c.in-Ok in
    let ready =
    row_ready outs row found one.result.now two.result.now made own.own.masks are one.ensures.value two.ensures.value
    c.in_ok-form-in-Ok.ensures own.ensures.masks own.ensures.free in
    let same_form : c.in_ok-form-in-Ok.form ≡ form = cc in
    let same_paths : c.in-Ok.own ≡ p = cc in
    let at_paths = subst (λ (q : Paths). IsReady outs row made q.masks) same_paths ready in
    subst (λ (f : FormView). IsReady outs row f p.masks) same_form at_paths

pub returns-in-Err-Loop-clause-looped : goal.returns-in-Err-Loop-clause-looped
returns-in-Err-Loop-clause-looped c same =
    let outs = outs_of c.args.outs.now in
    let row = c.args.row.now in
    let found : Found Global = (c.in-Some.ids, c.in-Some.kids) in
    let ids = c.in_ok-ids in
    let are = kids_found outs c.as_slice.result.now row.kids ids.field-0 found c.as_slice.ensures c.in-Some.is ids.ensures in
    let loop = c.in-Err-Loop.ensures.cycle c.in-Err-Loop.field-0-is in
    row_looped outs row found found.0.items c.as_slice-2.result.now are c.as_slice-2.ensures.value loop
