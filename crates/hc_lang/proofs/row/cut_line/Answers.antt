use Rattle.hc_lang.proofs.RowSteps.{cut_last, cut_more}
use Rattle.hc_lang.proofs.row.cut_line.Goals as goal

pub returns-in-empty-clause-value : goal.returns-in-empty-clause-value
returns-in-empty-clause-value c = cut_last _ _ _ _ c.line_len.ensures.value c.split_at.ensures.front c.split_at.ensures.back c.in-empty.len_below

pub returns-in-len1-up-clause-value : goal.returns-in-len1-up-clause-value
returns-in-len1-up-clause-value c = cut_more _ _ _ _ c.line_len.ensures.value c.split_at.ensures.front c.split_at.ensures.back c.in-len1-up.len_at_least
