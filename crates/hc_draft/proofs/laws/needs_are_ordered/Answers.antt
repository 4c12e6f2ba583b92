use Rattle.hc_draft.proofs.NeedsLaws.{needs_within, needs_all}
use Rattle.hc_draft.proofs.laws.needs_are_ordered.Goals as goal

pub returns : goal.returns
returns c = record {
  operands = λ g kids order own every lawful o. needs_within g kids order lawful o own every;
  inputs = λ g kids order own every lawful o. needs_all g kids order lawful o own every;
}
