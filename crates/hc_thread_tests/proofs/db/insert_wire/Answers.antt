use Rattle.std.proofs.Common.{List, [], subst}
use Rattle.hc_signal.specs.Member.{Has}
use Rattle.hc_canon.specs.declared.form.EntryId.{EntryId}
use Rattle.hc_thread_tests.proofs.db.insert_wire.Goals as goal

nothing : {P : Type 0} (id : EntryId) → Has [] id → P
nothing id kid = elim kid [ ]

pub insert-requires-clause-kids : goal.insert-requires-clause-kids
insert-requires-clause-kids g c id kid = nothing id (subst (λ (ids : List EntryId). Has ids id) c.in_ok-form.ensures kid)
