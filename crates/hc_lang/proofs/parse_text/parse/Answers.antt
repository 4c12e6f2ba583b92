use Rattle.std.proofs.Common.{refl, arith}
use Rattle.hc_lang.proofs.TextLaws.{read_parses, stops_faulty, fault_is}
use Rattle.hc_lang.proofs.parse_text.parse.Goals as goal

pub returns-in-Ok : goal.returns-in-Ok
returns-in-Ok c = read_parses 64 64 refl refl (omega arith) _ _ c.in-Ok.ensures

pub returns-in-Err-Fault : goal.returns-in-Err-Fault
returns-in-Err-Fault c = (stops_faulty 64 64 refl refl (omega arith) _ _ (fault_is _ _ _ _ c.in-Err-Fault.field-0-is c.in-Err-Fault.ensures), refl)
