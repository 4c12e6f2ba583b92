-- A design and its rows have one summary.
use Rattle.std.proofs.Common.{◌≡◌, ℕ, List, sym, ap, ◌∙◌}
use Rattle.hc_bench.specs.Listing.{CycleRow}
use Rattle.hc_plan.specs.Elaborates.{Elaborated}
use Rattle.hc_summary.specs.Summary.{AreCountsOf, Counts, IsCallTree, IsReachedTree, IsSummary, summary_text}
use Rattle.hc_summary.proofs.Matching.{kinds_single}

abbrev counts : ℕ → ℕ → ℕ → ℕ → ℕ → ℕ → Counts
counts i e m w o y = record { instances = i; entries = e; modules = m; weight = w; words = o; cycles = y }

same_counts : (c d : Counts) → c.instances ≡ d.instances → c.entries ≡ d.entries → c.modules ≡ d.modules → c.weight ≡ d.weight → c.words ≡ d.words → c.cycles ≡ d.cycles → c ≡ d
same_counts c d i e m w o y =
    ap (λ n. counts n c.entries c.modules c.weight c.words c.cycles) i
    ∙ ap (λ n. counts d.instances n c.modules c.weight c.words c.cycles) e
    ∙ ap (λ n. counts d.instances d.entries n c.weight c.words c.cycles) m
    ∙ ap (λ n. counts d.instances d.entries d.modules n c.words c.cycles) w
    ∙ ap (λ n. counts d.instances d.entries d.modules d.weight n c.cycles) o
    ∙ ap (λ n. counts d.instances d.entries d.modules d.weight d.words n) y

counts_single : (of : Elaborated) (rows : List CycleRow) (c d : Counts) → AreCountsOf of rows c → AreCountsOf of rows d → c ≡ d
counts_single of rows c d a b =
    same_counts c d (a.instances ∙ sym b.instances) (kinds_single (IsCallTree of.calls) c.entries d.entries a.entries b.entries)
    (kinds_single (IsReachedTree of.tree) c.modules d.modules a.modules b.modules)
    (a.weight ∙ sym b.weight) (a.words ∙ sym b.words) (a.cycles ∙ sym b.cycles)

pub summary_single : (e : Elaborated) (rows : List CycleRow) (a b : List ℕ) → IsSummary e rows a → IsSummary e rows b → a ≡ b
summary_single e rows a b (c, x, text) (d, y, other) = text ∙ ap summary_text (counts_single e rows c d x y) ∙ sym other
