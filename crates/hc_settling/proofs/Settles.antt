-- A walk along a part is sound.
use Rattle.std.proofs.Common.{◌≡◌, ℕ, Bool, true, false, true≢false, ◌⊎◌, inl, inr, List, [], ◌∷◌, refl, sym, subst, ◌∙◌, ap}
use Rattle.std.specs.Prelude.{Some}
use Rattle.hc_signal.specs.Member.{Has, first, later}
use Rattle.hc_walk.proofs.Members.{has_map}
use Rattle.hc_signal.specs.declared.signal.Node.{Node}
use Rattle.hc_signal.specs.declared.signal.Node.TheVariants.{Input}
use Rattle.hc_signal.specs.Tree.{Tree, none, tree, graph, IsWhole}
use Rattle.hc_signal.specs.Lawful.{IsLawful}
use Rattle.hc_signal.specs.Occurrences.{Occurrence, tree_at, graph_at, NodeIs, IsReachedPath, IsReachedOccurrence, connection}
use Rattle.hc_bench.specs.Simulation.{State, value, IsSettled}
use Rattle.hc_steps.specs.Plan.{Step, make, take, run, Part, steps_at, Fact, made, passed, ran, fact, facts, Begins, AreReady, id_of}
use Rattle.hc_settling.specs.Known.{at_path, ArePlans, IsRight, IsKnown, is_made, is_passed, is_run, AreMarked, KeepsConstants}
use Rattle.hc_steps.specs.Tables.{Tables, row}
use Rattle.hc_settling.specs.Tables.{AreTablesOf}
use Rattle.hc_settling.specs.Settling.{Board, IsClosed, IsWoken, IsPut, kept, put, computed, Walks, stop, makes, takes, passes, skips, runs, IsCalled, IsSound}
use Rattle.hc_settling.proofs.Agrees.{whole_at}
use Rattle.hc_settling.proofs.Quiet.{known_stays, begins, made_right, taken_right, passed_right, still_known}
use Rattle.hc_settling.proofs.Whole.{unmarked_still}
use Rattle.hc_settling.proofs.Marks.{marks_stay, more_marks}
use Rattle.hc_settling.proofs.Told.{made_no_input, told_own, told_readers, told_takers, told_inputs, input_not_taken, passers_of}

no_stale : (b : Bool) → (b ≡ true → ⊥) → b ≡ false
no_stale true d = absurd (d refl)
no_stale false d = refl

not_both : (b : Bool) → b ≡ true → b ≡ false → ⊥
not_both b e f = true≢false (sym e ∙ f)

lawful_of : (s : Tree) → IsWhole s → IsLawful (graph s)
lawful_of none w = absurd w
lawful_of (tree g kids) w = w.0

module _ (t : Tree) (plans : List ℕ → List Part) (tables : List ℕ → Tables) (whole : IsWhole t) (are : ArePlans t plans) (told : AreTablesOf t plans tables) (state : State)
    (inputs : List ℕ) (v : Occurrence → ℕ) (settled : IsSettled t state inputs v) where
  abbrev Marked : Board → Type 0
  Marked b = AreMarked t plans state inputs b.vals b.stale

  abbrev Known : Board → List ℕ → Fact → Type 0
  Known b p f = IsKnown t plans b.vals v p f

  -- ---- marks

  closed_of : (b : Board) → Marked b → IsClosed t plans b.stale
  closed_of b marked p part i c r h u = by (b.stale p part) refl
    where
      by : (z : Bool) → b.stale p part ≡ z → b.stale p part ≡ true
      by true e = e
      by false e = absurd (not_both (b.stale (i ∷ p) c) u ((marked p part r e).1 i c h))

  woken_marks : (vals : Occurrence → ℕ) (p : List ℕ) (parts : List ℕ) (old new : List ℕ → ℕ → Bool) → IsWoken t plans p parts old new
      → AreMarked t plans state inputs vals old → AreMarked t plans state inputs vals new
  woken_marks vals p parts old new w marked =
      more_marks t plans state inputs vals old new
      (λ q j u. no_stale (old q j) (λ e. not_both (new q j) (w.grown q j e) u))
      (λ q j i c r u h. no_stale (new (i ∷ q) c) (λ e. not_both (new q j) (w.closed (closed_of (record { vals = vals; stale = old }) marked) q j i c r h e) u))
      marked

  elsewhere : (old new : Occurrence → ℕ) (at : Occurrence) → ((s : Occurrence) → (s ≡ at) ⊎ (new s ≡ old s)) → (s : Occurrence) → (s ≡ at → ⊥) → new s ≡ old s
  elsewhere old new at a s d = elim (a s) [ inl e ↦ absurd (d e) | inr e ↦ e ]

  -- ---- right numbers

  put_right : (old new : Occurrence → ℕ) (at : Occurrence) → ((s : Occurrence) → (s ≡ at) ⊎ (new s ≡ old s)) → IsRight new v t at → (s : Occurrence) → IsRight old v t s → IsRight new v t s
  put_right old new at a here s r = elim (a s) [ inl e ↦ subst (λ (z : Occurrence). IsRight new v t z) (sym e) here | inr e ↦ (λ q. e ∙ r q) ]

  put_constants : (old new : Occurrence → ℕ) (at : Occurrence) → ((s : Occurrence) → (s ≡ at) ⊎ (new s ≡ old s)) → IsRight new v t at → KeepsConstants t old → KeepsConstants t new
  put_constants old new at a here keep p n c y r =
      elim (a (at_path p n)) [
        | inl e ↦ subst (λ (z : Occurrence). IsRight new v t z) (sym e) here r ∙ settled (at_path p n) y.0 r y.1 ∙ ap (λ (z : Node). value t state inputs v p n z) y.2
        | inr e ↦ e ∙ keep p n c y r
      ]

  abbrev Sound : Board → Board → List ℕ → List Fact → Type 0
  Sound old new p fs = IsSound t plans state inputs v old new p fs

  nothing : (old : Board) (p : List ℕ) → Marked old → KeepsConstants t old.vals → Sound old old p []
  nothing old p m c = record { marks = m; constants = c; grown = λ q j u. u; right = λ s r. r; known = λ f h. elim h [ ] }

  -- a number of the circuit itself
  put_sound : (p : List ℕ) (part n x : ℕ) (old new : Board) → IsReachedPath t p → Has (facts (steps_at (plans p) part)) (made n) → old.stale p part ≡ true
      → IsCalled plans tables old.stale p part → Marked old → KeepsConstants t old.vals
      → (IsReachedOccurrence t (at_path p n) → x ≡ v (at_path p n)) → IsPut t plans p n x (row (tables p).readers part) old new → Sound old new p [] × IsRight new.vals v t (at_path p n)
  put_sound p part n x old new r h u called marked keep right (kept e) = (nothing old p marked keep, (λ q. e ∙ right q))
  put_sound p part n x old new r h u called marked keep right (put changed w value others) =
      let here : IsRight new.vals v t (at_path p n) = λ q. value ∙ right q in
      let before : AreMarked t plans state inputs old.vals new.stale = woken_marks old.vals p (row (tables p).readers part) old.stale new.stale w marked in
      let self : new.stale p part ≡ true = w.grown p part u in (
        record {
          marks = marks_stay t plans are state inputs old.vals new.vals new.stale (at_path p n) (elsewhere old.vals new.vals (at_path p n) others)
              (λ j g. told_own t plans are tables told new.stale p r part n j h self g)
              (λ j g. told_readers t plans are tables told new.stale p r part n j h self w.there g)
              (λ i j q e g.
              let a = called i q e in
              told_takers t plans are tables told new.stale q i ((subst (λ (l : List ℕ). IsReachedPath t l) e r).0) part n a.0 j
              (subst (λ (l : List ℕ). Has (facts (steps_at (plans l) part)) (made n)) e h) a.1
              (w.grown q a.0 a.2) (λ k c. w.grown q k (a.3 k c)) g)
              (λ i j m port q e y z g. absurd (made_no_input t plans are p r part n port h y))
              before;
          constants = put_constants old.vals new.vals (at_path p n) others here keep;
          grown = w.grown;
          right = put_right old.vals new.vals (at_path p n) others here;
          known = λ f c. elim c [ ];
        },
        here,
      )

  -- an input of an instance
  give_sound : (p : List ℕ) (i port n m : ℕ) (old new : Board) → IsReachedPath t (i ∷ p) → NodeIs t (i ∷ p) m (Input port)
      → connection (graph_at t p) i port ≡ Some (id_of n) → Marked old → KeepsConstants t old.vals
      → (IsReachedOccurrence t (at_path (i ∷ p) m) → old.vals (at_path p n) ≡ v (at_path (i ∷ p) m)) → IsPut t plans (i ∷ p) m (old.vals (at_path p n))
      (row (tables (i ∷ p)).input_readers port) old new
      → Sound old new p [] × IsRight new.vals v t (at_path (i ∷ p) m)
  give_sound p i port n m old new r y e marked keep right (kept same) = (nothing old p marked keep, (λ q. same ∙ right q))
  give_sound p i port n m old new r y e marked keep right (put changed w value others) =
      let here : IsRight new.vals v t (at_path (i ∷ p) m) = λ q. value ∙ right q in
      let before : AreMarked t plans state inputs old.vals new.stale = woken_marks old.vals (i ∷ p) (row (tables (i ∷ p)).input_readers port) old.stale new.stale w marked in (
        record {
          marks = marks_stay t plans are state inputs old.vals new.vals new.stale (at_path (i ∷ p) m) (elsewhere old.vals new.vals (at_path (i ∷ p) m) others)
              (λ j g. absurd (made_no_input t plans are (i ∷ p) r j m port g y))
              (λ j g. told_inputs t plans are tables told new.stale (i ∷ p) r m port j y w.there g)
              (λ a j l same g. absurd (input_not_taken t plans are tables told new.stale whole (i ∷ p) r m port a j l y same g))
              (λ a j k o l same z q g. passers_of t plans are state inputs old.vals new.stale before p i port m (id_of n) r y e changed a j k o l same z q g)
              before;
          constants = put_constants old.vals new.vals (at_path (i ∷ p) m) others here keep;
          grown = w.grown;
          right = put_right old.vals new.vals (at_path (i ∷ p) m) others here;
          known = λ f c. elim c [ ];
        },
        here,
      )

  -- ---- one after another

  one_known : (b : Board) (p : List ℕ) (f : Fact) → Known b p f → (g : Fact) → Has (f ∷ []) g → Known b p g
  one_known b p f k _ first = k
  one_known b p f k g (later h) = elim h [ ]

  with_fact : (old new : Board) (p : List ℕ) (f : Fact) → Sound old new p [] → Known new p f → Sound old new p (f ∷ [])
  with_fact old new p f a k = record { marks = a.marks; constants = a.constants; grown = a.grown; right = a.right; known = one_known new p f k }

  chain_known : (mid new : Board) (p : List ℕ) (f : Fact) (fs : List Fact) → Known mid p f → Sound mid new p fs → (g : Fact) → Has (f ∷ fs) g → Known new p g
  chain_known mid new p f fs k b _ first = known_stays b.right k
  chain_known mid new p f fs k b g (later h) = b.known g h

  chain : (old mid new : Board) (p : List ℕ) (f : Fact) (fs : List Fact) → Sound old mid p (f ∷ []) → Sound mid new p fs → Sound old new p (f ∷ fs)
  chain old mid new p f fs a b = record {
    marks = b.marks;
    constants = b.constants;
    grown = λ q j u. b.grown q j (a.grown q j u);
    right = λ s r. b.right s (a.right s r);
    known = chain_known mid new p f fs (a.known f first) b;
  }

  more_known : (old mid : Board) (p : List ℕ) (f : Fact) (so_far : List Fact) → Sound old mid p (f ∷ []) → ((g : Fact) → Has so_far g → Known old p g) → (g : Fact) → Has (f ∷ so_far) g → Known mid p g
  more_known old mid p f so_far a k _ first = a.known f first
  more_known old mid p f so_far a k g (later h) = known_stays a.right (k g h)

  either_known : (b : Board) (p : List ℕ) (known : Fact → Type 0) (so_far : List Fact) → ((f : Fact) → known f → Known b p f) → ((f : Fact) → Has so_far f → Known b p f)
      → (f : Fact) → known f ⊎ Has so_far f → Known b p f
  either_known b p known so_far a k f (inl h) = a f h
  either_known b p known so_far a k f (inr h) = k f h

  called_grows : (p : List ℕ) (part : ℕ) (old new : List ℕ → ℕ → Bool) → ((q : List ℕ) (j : ℕ) → old q j ≡ true → new q j ≡ true) → IsCalled plans tables old p part → IsCalled plans tables new p part
  called_grows p part old new grown c i q e = let a = c i q e in (a.0, a.1, grown q a.0 a.2, (λ k h. grown q k (a.3 k h)))

  abbrev head_of : List ℕ → ℕ
  head_of [] = 0
  head_of (x ∷ xs) = x

  abbrev tail_of : List ℕ → List ℕ
  tail_of [] = []
  tail_of (x ∷ xs) = xs

  called_by : (stale : List ℕ → ℕ → Bool) (p : List ℕ) (part i b : ℕ) → Has (steps_at (plans p) part) (run i b) → stale p part ≡ true
      → ((k : ℕ) → Has (row (tables p).takers part) k → stale p k ≡ true) → IsCalled plans tables stale (i ∷ p) b
  called_by stale p part i b h u a j q e =
      subst
      (λ (l : List ℕ). (c : ℕ) × Has (steps_at (plans (tail_of l)) c) (run (head_of l) b) × (stale (tail_of l) c ≡ true)
      × ((k : ℕ) → Has (row (tables (tail_of l)).takers c) k → stale (tail_of l) k ≡ true))
      e (part, h, u, a)

  -- a walk is sound
  pub walk_sound : {p : List ℕ} {part : ℕ} {steps : List Step} {old new : Board} → Walks t plans tables state inputs p part steps old new → IsReachedPath t p
      → old.stale p part ≡ true → IsCalled plans tables old.stale p part → Marked old → KeepsConstants t old.vals
      → ((s : Step) → Has steps s → Has (steps_at (plans p) part) s) → (known : Fact → Type 0) (so_far : List Fact) → AreReady (graph_at t p) (λ i. graph_at t (i ∷ p))
      (λ i. plans (i ∷ p)) known so_far steps
      → ((f : Fact) → known f → Known old p f) → ((f : Fact) → Has so_far f → Known old p f) → Sound old new p (facts steps)
  walk_sound (stop {p = p} {b = b}) r u called marked keep sub known so_far ready a k = nothing b p marked keep
  walk_sound (makes {p = p} {part = part} {n = n} {steps = steps} {old = old} {mid = mid} {new = new} x at here rest) r u called marked keep sub known so_far ready a k =
      let y = ready.0.1 in
      let one = put_sound p part n (computed t state inputs old.vals p n x) old mid r (has_map fact (sub (make n) first)) u called marked keep
      (λ q. made_right t plans state inputs old.vals v settled keep p r n ready.0.0 y.0 y.1 y.2 (λ m h. either_known old p known so_far a k (made m.0) (y.3 m h)) x at) here in
      let now : Sound old mid p (made n ∷ []) = with_fact old mid p (made n) one.0 (is_made one.1) in
      chain old mid new p (made n) (facts steps) now
      (walk_sound rest r (now.grown p part u) (called_grows p part old.stale mid.stale now.grown called) now.marks now.constants (λ s c. sub s (later c)) known
      (made n ∷ so_far) ready.1 (λ f h. known_stays now.right (a f h)) (more_known old mid p (made n) so_far now k))
  walk_sound (takes {p = p} {part = part} {n = n} {i = i} {port = port} {steps = steps} {old = old} {mid = mid} {new = new} x at here rest) r u called marked keep sub known so_far ready a k =
      let o = ready.0.2 in
      let one = put_sound p part n (computed t state inputs old.vals p n x) old mid r (has_map fact (sub (take n i port) first)) u called marked keep
      (λ q. taken_right t plans state inputs old.vals v settled keep p r n i port o.1 ready.0.0 ready.0.1 o.0 o.2 o.3 (either_known old p known so_far a k (ran i o.1) o.4) x at) here in
      let now : Sound old mid p (made n ∷ []) = with_fact old mid p (made n) one.0 (is_made one.1) in
      chain old mid new p (made n) (facts steps) now
      (walk_sound rest r (now.grown p part u) (called_grows p part old.stale mid.stale now.grown called) now.marks now.constants (λ s c. sub s (later c)) known
      (made n ∷ so_far) ready.1 (λ f h. known_stays now.right (a f h)) (more_known old mid p (made n) so_far now k))
  walk_sound (passes {p = p} {part = part} {n = n} {i = i} {port = port} {steps = steps} {old = old} {mid = mid} {new = new} m y here rest) r u called marked keep sub known so_far ready a k =
      let kid : IsReachedPath t (i ∷ p) = (r, ready.0.0) in
      let one = give_sound p i port n m old mid kid y ready.0.1 marked keep
      (λ q. passed_right t plans state inputs old.vals v settled keep p r n i port ready.0.0 ready.0.1 (either_known old p known so_far a k (made n) ready.0.2) m y q) here in
      let lawful : IsLawful (graph_at t (i ∷ p)) = lawful_of (tree_at t (i ∷ p)) (whole_at t whole (i ∷ p) kid) in
      let now : Sound old mid p (passed i port ∷ []) = with_fact old mid p (passed i port) one.0
      (is_passed (λ j z. subst (λ (l : ℕ). IsRight mid.vals v t (at_path (i ∷ p) l)) (lawful.one_input m j port y z) one.1)) in
      chain old mid new p (passed i port) (facts steps) now
      (walk_sound rest r (now.grown p part u) (called_grows p part old.stale mid.stale now.grown called) now.marks now.constants (λ s c. sub s (later c)) known
      (passed i port ∷ so_far) ready.1 (λ f h. known_stays now.right (a f h)) (more_known old mid p (passed i port) so_far now k))
  walk_sound (skips {p = p} {part = part} {i = i} {b = b} {steps = steps} {old = old} {new = new} e rest) r u called marked keep sub known so_far ready a k =
      let kid : IsReachedPath t (i ∷ p) = (r, ready.0.0) in
      let fact_is : Known old p (ran i b) =
      is_run (still_known t plans state inputs old.vals v settled keep are (unmarked_still t plans are state inputs old.vals whole old.stale marked (i ∷ p) b kid e) kid
      (begins t plans state inputs old.vals v settled keep p i b (λ j need. either_known old p known so_far a k (passed i j) (ready.0.1 j need))
      (λ c is. either_known old p known so_far a k (ran i c) (ready.0.2 c is)))) in
      let now : Sound old old p (ran i b ∷ []) = with_fact old old p (ran i b) (nothing old p marked keep) fact_is in
      chain old old new p (ran i b) (facts steps) now
      (walk_sound rest r u called marked keep (λ s c. sub s (later c)) known (ran i b ∷ so_far) ready.1 a (more_known old old p (ran i b) so_far now k))
  walk_sound (runs {p = p} {part = part} {i = i} {b = b} {steps = steps} {old = old} {mid = mid} {new = new} woken e w inner rest) r u called marked keep sub known so_far ready a k =
      let kid : IsReachedPath t (i ∷ p) = (r, ready.0.0) in
      let start : Board = record { vals = old.vals; stale = woken } in
      let part_of : Sound start mid (i ∷ p) (facts (steps_at (plans (i ∷ p)) b)) =
      walk_sound inner kid (w.grown (i ∷ p) b e) (called_by woken p part i b (sub (run i b) first) (w.grown p part u) w.there)
      (woken_marks old.vals p (row (tables p).takers part) old.stale woken w marked) keep (λ s c. c) (Begins (graph_at t (i ∷ p)) (plans (i ∷ p)) b) [] ((are (i ∷ p) kid).parts b)
      (begins t plans state inputs old.vals v settled keep p i b (λ j need. either_known old p known so_far a k (passed i j) (ready.0.1 j need))
      (λ c is. either_known old p known so_far a k (ran i c) (ready.0.2 c is)))
      (λ f h. elim h [ ]) in
      let now : Sound old mid p (ran i b ∷ []) = record {
        marks = part_of.marks;
        constants = part_of.constants;
        grown = λ q j z. part_of.grown q j (w.grown q j z);
        right = part_of.right;
        known = one_known mid p (ran i b) (is_run part_of.known);
      } in
      chain old mid new p (ran i b) (facts steps) now
      (walk_sound rest r (now.grown p part u) (called_grows p part old.stale mid.stale now.grown called) now.marks now.constants (λ s c. sub s (later c)) known
      (ran i b ∷ so_far) ready.1 (λ f h. known_stays now.right (a f h)) (more_known old mid p (ran i b) so_far now k))
