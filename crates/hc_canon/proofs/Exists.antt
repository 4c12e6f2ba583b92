-- Each lawful graph has a canonical form: the circuit that its walk lays out.
use Rattle.hc_signal.specs.Graph.{Graph, Vertex}
use Rattle.hc_signal.specs.Lawful.{IsLawful}
use Rattle.hc_signal.specs.Renumber.{Renumbering}
use Rattle.hc_walk.specs.DepthFirst.{NumbersTo}
use Rattle.hc_walk.proofs.Walking.{walk_exists}
use Rattle.hc_canon.specs.Same.{IsIsomorphism}
use Rattle.hc_canon.specs.Numbering.{IsCanonical}
use Rattle.hc_canon.specs.Layout.{laid_out}
use Rattle.hc_canon.proofs.LaidOut.{back, laid_out_isomorphism, laid_out_canonical}
use Rattle.hc_canon.proofs.Fits.{to, are}
use Rattle.hc_canon.proofs.Transport.{laid_out_lawful}

pub canonical_some : (g : Graph) → IsLawful g → (c : Graph) × (to : Renumbering) × (back : Renumbering) × IsIsomorphism to back g c × IsLawful c × IsCanonical c
canonical_some g l =
    let w : (end : _) × NumbersTo g end = walk_exists g l in
    let r = to g l w.0 w.1 in
    let a = are g l w.0 w.1 in
    (laid_out g w.0 r, r, back g l w.0 w.1 r a, laid_out_isomorphism g l w.0 w.1 r a, laid_out_lawful g l w.0 w.1 r a, laid_out_canonical g l w.0 w.1 r a)
