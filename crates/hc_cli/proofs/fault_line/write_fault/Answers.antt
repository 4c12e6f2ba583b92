use Rattle.std.proofs.Common.{◌++◌, refl}
use Rattle.std.specs.Prelude.{codes}
use Rattle.hc_cli.specs.FaultLine.{fault_line, path_text}
use Rattle.hc_cli.proofs.Pieces.{sent_cut, sent_cut_first, sent_more, sent_none, sent_last}
use Rattle.hc_cli.proofs.Parts.{front_text, line_parts}
use Rattle.hc_cli.proofs.fault_line.write_fault.Goals as goal

pub returns-in_err-write_front-clause-front : goal.returns-in_err-write_front-clause-front
returns-in_err-write_front-clause-front g c =
    (sent_cut_first _ _ _ _ c.from_residual.result (fault_line c.args.fault.now) (front_text c.args.fault.now) (path_text c.args.fault.now.path ++ codes "\n")
    c.from_residual.ensures.0 (line_parts c.args.fault.now)
    c.in_err-write_front.ensures.front c.in_err-write_front.ensures.cause.never_falls c.in_err-write_front.ensures.cause.failed).front

pub returns-in_err-write_path-clause-front : goal.returns-in_err-write_path-clause-front
returns-in_err-write_path-clause-front g c =
    (sent_cut _ _ _ _ _ _ c.from_residual-in_err-write_path.result (fault_line c.args.fault.now) (path_text c.args.fault.now.path ++ codes "\n") (path_text c.args.fault.now.path) (codes "\n")
    c.from_residual-in_err-write_path.ensures.0
    (sent_more _ _ _ (fault_line c.args.fault.now) (fault_line c.args.fault.now) (front_text c.args.fault.now) (path_text c.args.fault.now.path ++ codes "\n") (sent_none _ _)
    (line_parts c.args.fault.now) c.in_ok-write_front.ensures.all)
    c.in_ok-write_front.ensures.cause.never_falls refl
    c.in_err-write_path.ensures.front c.in_err-write_path.ensures.cause.never_falls c.in_err-write_path.ensures.cause.failed).front

pub returns-clause-front : goal.returns-clause-front
returns-clause-front g c =
    sent_last _ _ _ c.write_all.result (fault_line c.args.fault.now) (codes "\n")
    (sent_more _ _ _ (fault_line c.args.fault.now) (path_text c.args.fault.now.path ++ codes "\n") (path_text c.args.fault.now.path) (codes "\n")
    (sent_more _ _ _ (fault_line c.args.fault.now) (fault_line c.args.fault.now) (front_text c.args.fault.now) (path_text c.args.fault.now.path ++ codes "\n") (sent_none _ _)
    (line_parts c.args.fault.now) c.in_ok-write_front.ensures.all)
    refl c.in_ok-write_path.ensures.all)
    c.write_all.ensures.front
