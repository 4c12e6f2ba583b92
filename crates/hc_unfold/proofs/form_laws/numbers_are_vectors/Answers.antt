use Rattle.hc_unfold.proofs.KeptPrimitives.{vector_of_number, width_of_number, zero_vector}
use Rattle.hc_unfold.proofs.form_laws.numbers_are_vectors.Goals as goal

pub returns-clause-width : goal.returns-clause-width
returns-clause-width c = width_of_number

pub returns-clause-value : goal.returns-clause-value
returns-clause-value c = vector_of_number

pub returns-clause-zero : goal.returns-clause-zero
returns-clause-zero c = zero_vector
