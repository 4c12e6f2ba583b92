-- Numbers, signals, statements and circuits as they are written may be shared and sent.
use denote.Struct.Declared.{shape}
use denote.Param.Send.{IsSend, IsSync, recorded_send, recorded_sync, sendable, struct_send, struct_sync}
use Rattle.std.proofs.Crossing.{crosses}
use Rattle.hc_tokens.specs.contracts.tree.Num as Num
use Rattle.hc_tokens.proofs.tree.Num.TheLaws.TheKnot.{send-Num, sync-Num}
use Rattle.hc_sigtext.specs.contracts.tree.Sig as Sig
use Rattle.hc_lines.specs.contracts.tree.Stmt as Stmt
use Rattle.hc_lang.specs.contracts.tree.Head as Head
use Rattle.hc_lang.specs.contracts.tree.CircuitText as CircuitText
use Rattle.hc_lang.specs.contracts.circuits.Circuits as Circuits
use Rattle.hc_lang.specs.contracts.tree.TopLine as TopLine
use Rattle.hc_lang.specs.contracts.tree.BenchLine as BenchLine
use Rattle.hc_lang.specs.contracts.tree.Design as Design
use Rattle.hc_fault.specs.contracts.item_list.ItemList as ItemList
use Rattle.hc_lines.proofs.tree.What.TheLaws.TheKnot.{send-Stmt, sync-Stmt}
use Rattle.hc_sigtext.proofs.tree.Sig.TheLaws.TheKnot.{send-Sig, sync-Sig}

num_field_send : IsSend (Num.the_field).row
num_field_send = search (send-Num, sendable, crosses) depth 40

num_field_sync : IsSync (Num.the_field).row
num_field_sync = search (sync-Num, sendable, crosses) depth 40

pub num_send : IsSend Num.the_row
num_send = search (send-Num, sendable, crosses) depth 40

pub num_sync : IsSync Num.the_row
num_sync = search (sync-Num, sendable, crosses) depth 40

pub sig_send : IsSend (Sig.the_field).row
sig_send =
    send-Sig (search (sendable, crosses)) (search (sendable, crosses)) (search (num_send, sendable, crosses) depth 30) (search (sendable, crosses) depth 30) (search (sendable, crosses) depth 30)
    (λ R s. search (sendable, crosses) depth 30) (search (num_send, sendable, crosses) depth 30) (λ R s. search (sendable, crosses) depth 30)

pub sig_sync : IsSync (Sig.the_field).row
sig_sync =
    sync-Sig (search (sendable, crosses)) (search (sendable, crosses)) (search (num_sync, sendable, crosses) depth 30) (search (sendable, crosses) depth 30) (search (sendable, crosses) depth 30)
    (λ R s. search (sendable, crosses) depth 30) (search (num_sync, sendable, crosses) depth 30) (λ R s. search (sendable, crosses) depth 30)

pub stmt_send : IsSend (Stmt.the_field).row
stmt_send =
    send-Stmt (search (num_send, sendable, crosses) depth 30) sig_send num_field_send (search (sendable, crosses) depth 30)
    (search (sig_send, sendable, crosses) depth 30) (search (sig_send, sendable, crosses) depth 30) (search (sig_send, num_send, sendable, crosses) depth 30)
    (search (num_send, sendable, crosses) depth 30) (search (num_send, sendable, crosses) depth 30) (search (sig_send, sendable, crosses) depth 60)
    (λ R s. search (sendable, crosses) depth 30) (search sendable)

pub stmt_sync : IsSync (Stmt.the_field).row
stmt_sync =
    sync-Stmt (search (num_sync, sendable, crosses) depth 30) sig_sync num_field_sync (search (sendable, crosses) depth 30)
    (search (sig_sync, sendable, crosses) depth 30) (search (sig_sync, sendable, crosses) depth 30) (search (sig_sync, num_sync, sendable, crosses) depth 30)
    (search (num_sync, sendable, crosses) depth 30) (search (num_sync, sendable, crosses) depth 30) (search (sig_sync, sendable, crosses) depth 60)
    (λ R s. search (sendable, crosses) depth 30) (search sendable)

stmt_row_send : IsSend Stmt.the_row
stmt_row_send = search (stmt_send, sendable, crosses) depth 10

head_send : IsSend Head.the_row
head_send = search (num_field_send, sendable, crosses) depth 60

pub circuit_send : IsSend CircuitText.the_row
circuit_send = search (head_send, stmt_row_send, sendable, crosses) depth 60

stmt_row_sync : IsSync Stmt.the_row
stmt_row_sync = search (stmt_sync, sendable, crosses) depth 10

head_sync : IsSync Head.the_row
head_sync = search (num_field_sync, sendable, crosses) depth 60

pub circuit_sync : IsSync CircuitText.the_row
circuit_sync = search (head_sync, stmt_row_sync, sendable, crosses) depth 60

top_send : IsSend (TopLine.the_field).row
top_send = search (num_send, sendable, crosses) depth 60

bench_send : IsSend BenchLine.the_row
bench_send = search (sendable, crosses) depth 60

circuits_send : IsSend (Circuits.the_field).row
circuits_send = search (circuit_send, sendable, crosses) depth 100

benches_send : IsSend (ItemList.the_field BenchLine.the_row).row
benches_send = search (bench_send, sendable, crosses) depth 60

pub design_send : IsSend Design.the_row
design_send = recorded_send (Design.the_field).row _ _ (Design.the_type).to_one (struct_send (shape Design.the_type) (circuits_send, (top_send, (benches_send, tt))))

top_sync : IsSync (TopLine.the_field).row
top_sync = search (num_sync, sendable, crosses) depth 60

bench_sync : IsSync BenchLine.the_row
bench_sync = search (sendable, crosses) depth 60

circuits_sync : IsSync (Circuits.the_field).row
circuits_sync = search (circuit_sync, sendable, crosses) depth 100

benches_sync : IsSync (ItemList.the_field BenchLine.the_row).row
benches_sync = search (bench_sync, sendable, crosses) depth 60

pub design_sync : IsSync Design.the_row
design_sync = recorded_sync (Design.the_field).row _ _ (Design.the_type).to_one (struct_sync (shape Design.the_type) (circuits_sync, (top_sync, (benches_sync, tt))))
