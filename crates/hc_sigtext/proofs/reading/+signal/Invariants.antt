use Rattle.std.proofs.Common.{◌≡◌, ◌≤◌, ◌+◌, ◌*◌, length}
use Rattle.hc_sigtext.specs.SigReading as r
use Rattle.hc_sigtext.proofs.reading.+signal.Given as goal

abbrev pub decreases-signal : goal.decreases-signal
decreases-signal l = 16 * l.depth + 6

abbrev pub decreases-word_sig : goal.decreases-word_sig
decreases-word_sig l = 16 * l.depth + 5

abbrev pub decreases-bracketed : goal.decreases-bracketed
decreases-bracketed l = 16 * l.depth + 4

abbrev pub decreases-body : goal.decreases-body
decreases-body l = 16 * l.depth + 11

abbrev pub decreases-call : goal.decreases-call
decreases-call l = 16 * l.depth + 10

abbrev pub decreases-listed : goal.decreases-listed
decreases-listed l = 16 * l.depth + 9

abbrev pub decreases-sig_list : goal.decreases-sig_list
decreases-sig_list l = 16 * l.depth + 8

abbrev pub decreases-memory_read : goal.decreases-memory_read
decreases-memory_read l = 16 * l.depth + 8

abbrev pub decreases-operation : goal.decreases-operation
decreases-operation l = 16 * l.depth + 9

abbrev pub decreases-sig_num : goal.decreases-sig_num
decreases-sig_num l = 16 * l.depth + 8

abbrev pub decreases-sig_nums : goal.decreases-sig_nums
decreases-sig_nums l = 16 * l.depth + 8

abbrev pub invariant-sig_list-more : goal.invariant-sig_list-more
invariant-sig_list-more l = (l.left ≤ length l.tokens) × (r.sig_list (r.signal_at l.depth) l.tokens ≡ r.more_sigs (r.signal_at l.depth) l.left l.sigs l.rest)

abbrev pub decreases-sig_list-more : goal.decreases-sig_list-more
decreases-sig_list-more l = l.left

abbrev pub decreases-enclosed : goal.decreases-enclosed
decreases-enclosed l = 16 * l.depth + 3
