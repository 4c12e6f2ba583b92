use Rattle.hc_modules.proofs.OfTrees.{text_of_trees}
use Rattle.hc_modules.proofs.laws.texts_are_of_trees.Goals as goal

pub returns : goal.returns
returns c h hier rows text legal over = text_of_trees h hier rows text (c.used_entries_are_called.ensures.top h.entries hier over) legal over
