use Rattle.hc_output.proofs.FlatTexts.{flat_text}
use Rattle.hc_output.proofs.flat_laws.flat_texts_exist.Goals as goal

pub returns : goal.returns
returns c d e title x =
    flat_text c.flat_graphs_exist.ensures.flat c.flat_graphs_exist.ensures.lawful c.modules_have_texts.ensures.tree e.tree title
    (c.elaborated_trees_are_whole.ensures d e x) (c.elaborated_circuits_are_checked.ensures d e x) (c.elaborated_trees_are_light.ensures d e x)
