-- Heads, read one after another.
use Rattle.std.proofs.Common.{◌≡◌, ℕ, suc, ◌+◌, ◌<◌, ◌⊎◌, inl, inr, Bool, true, false, List, [], ◌∷◌, ◌++◌, drop, length, get_or, refl, sym, ap, subst, ◌∙◌, append_assoc, arith, add-one, drop-cons, length-append}
use Rattle.std.specs.Prelude.{Result, Ok, Err, if◌then◌else◌}
use Rattle.hc_fault.specs.declared.fault.FaultKind.{FaultKind}
use Rattle.hc_bits.specs.BitVector.{IsWidth}
use Rattle.hc_lang.specs.declared.tree.Head.{Head}
use Rattle.hc_signal.specs.Member.{Has, first, later}
use Rattle.hc_signal.specs.declared.signal.Port.{Port}
use Rattle.hc_signal.specs.Builds.{port}
use Rattle.hc_statements.specs.Gives.{AreWidths}
use Rattle.hc_statements.specs.PortWidths.{PortWidths, before, at_line, width_of, widths_after, inputs_of, outputs_of, ports_of}
use Rattle.hc_signal.specs.declared.signal.Ports.{Ports}
use Rattle.hc_signal.specs.Lawful.{ArePorts}
use Rattle.hc_num.specs.Value.{Bindings}

-- widths that were read, and those that are still to be read
abbrev pub onto : List ℕ → PortWidths → PortWidths
onto ws (Ok more) = Ok (ws ++ more)
onto ws (Err f) = Err f

pub onto_none : (rest : PortWidths) → onto [] rest ≡ rest
onto_none (Ok ws) = refl
onto_none (Err f) = refl

pub onto_more : (ws : List ℕ) (w : ℕ) (rest : PortWidths) → onto (ws ++ w ∷ []) rest ≡ onto ws (before (Ok w) rest)
onto_more ws w (Ok more) = ap (λ (l : List ℕ). let r : PortWidths = Ok l in r) (append_assoc ws (w ∷ []) more)
onto_more ws w (Err f) = refl

last_or : (xs : List ℕ) (x y : ℕ) → Has (xs ++ x ∷ []) y → Has xs y ⊎ (y ≡ x)
last_or [] x y first = inr refl
last_or [] x y (later h) = elim h [ ]
last_or (z ∷ xs) x y first = inl first
last_or (z ∷ xs) x y (later h) = elim (last_or xs x y h) [ inl g ↦ inl (later g) | inr e ↦ inr e ]

pub no_widths : AreWidths []
no_widths w has = elim has [ ]

pub widths_more : (ws more : List ℕ) (w : ℕ) → AreWidths ws → IsWidth w → more ≡ ws ++ w ∷ [] → AreWidths more
widths_more ws more w are is e v has = elim (last_or ws w v (subst (λ (l : List ℕ). Has l v) e has)) [
  | inl old ↦ are v old
  | inr new ↦ subst (λ (u : ℕ). IsWidth u) (sym new) is
]

cut_heads : (hs : List Head) (i : ℕ) (h : Head) → i < length hs → h ≡ get_or hs i h → drop i hs ≡ h ∷ drop (i + 1) hs
cut_heads hs i h within item = rw add-one (drop-cons hs i h within ∙ ap (λ (x : Head). x ∷ drop (suc i) hs) (sym item))

cut_widths : (ws : List ℕ) (i : ℕ) → i < length ws → drop i ws ≡ get_or ws i 0 ∷ drop (i + 1) ws
cut_widths ws i within = rw add-one (drop-cons ws i 0 within)

-- one head more among the inputs
pub inputs_more : (done new all : List Port) (hs : List Head) (ws : List ℕ) (i : ℕ) (h : Head) → i < length hs → length ws ≡ length hs → h ≡ get_or hs i h
    → new ≡ (if h.is_input then done ++ port h.name (get_or ws i 0) ∷ [] else done) → done ++ inputs_of (drop i hs) (drop i ws) ≡ all
    → new ++ inputs_of (drop (i + 1) hs) (drop (i + 1) ws) ≡ all
inputs_more done new all hs ws i h within same item e before =
    let rest : List Port = inputs_of (drop (i + 1) hs) (drop (i + 1) ws) in
    let p : Port = port h.name (get_or ws i 0) in
    let step : inputs_of (drop i hs) (drop i ws) ≡ (if h.is_input then p ∷ rest else rest) = rw (cut_heads hs i h within item, cut_widths ws i (omega (arith, within, same))) refl in
    ap (λ (l : List Port). l ++ rest) e ∙ by h.is_input done p rest ∙ ap (λ (l : List Port). done ++ l) (sym step) ∙ before
  where
    by : (b : Bool) (done : List Port) (p : Port) (rest : List Port) → (if b then done ++ p ∷ [] else done) ++ rest ≡ done ++ (if b then p ∷ rest else rest)
    by true done p rest = append_assoc done (p ∷ []) rest
    by false done p rest = refl

-- and among the outputs
pub outputs_more : (done new all : List Port) (hs : List Head) (ws : List ℕ) (i : ℕ) (h : Head) → i < length hs → length ws ≡ length hs → h ≡ get_or hs i h
    → new ≡ (if h.is_input then done else done ++ port h.name (get_or ws i 0) ∷ []) → done ++ outputs_of (drop i hs) (drop i ws) ≡ all
    → new ++ outputs_of (drop (i + 1) hs) (drop (i + 1) ws) ≡ all
outputs_more done new all hs ws i h within same item e before =
    let rest : List Port = outputs_of (drop (i + 1) hs) (drop (i + 1) ws) in
    let p : Port = port h.name (get_or ws i 0) in
    let step : outputs_of (drop i hs) (drop i ws) ≡ (if h.is_input then rest else p ∷ rest) = rw (cut_heads hs i h within item, cut_widths ws i (omega (arith, within, same))) refl in
    ap (λ (l : List Port). l ++ rest) e ∙ by h.is_input done p rest ∙ ap (λ (l : List Port). done ++ l) (sym step) ∙ before
  where
    by : (b : Bool) (done : List Port) (p : Port) (rest : List Port) → (if b then done else done ++ p ∷ []) ++ rest ≡ done ++ (if b then rest else p ∷ rest)
    by true done p rest = refl
    by false done p rest = append_assoc done (p ∷ []) rest

-- one width more
pub widths_step : (env : Bindings) (taken taken2 : List (List ℕ)) (hs : List Head) (i : ℕ) (h : Head) (ws ws2 : List ℕ) (w : ℕ) (all : PortWidths) → i < length hs
    → h ≡ get_or hs i h → at_line h.line (width_of env taken h) ≡ Ok w → taken2 ≡ taken ++ h.name ∷ [] → ws2 ≡ ws ++ w ∷ []
    → onto ws (widths_after env taken (drop i hs)) ≡ all → onto ws2 (widths_after env taken2 (drop (i + 1) hs)) ≡ all
widths_step env taken taken2 hs i h ws ws2 w all within item is named more so_far =
    let rest : List (List ℕ) → PortWidths = λ t. widths_after env t (drop (i + 1) hs) in
    let step : widths_after env taken (drop i hs) ≡ before (Ok w) (rest (taken ++ h.name ∷ [])) =
    ap (widths_after env taken) (cut_heads hs i h within item) ∙ ap (λ (r : Result ℕ (ℕ × FaultKind)). before r (rest (taken ++ h.name ∷ []))) is in
    ap (λ (t : List (List ℕ)). onto ws2 (rest t)) named
    ∙ ap (λ (l : List ℕ). onto l (rest (taken ++ h.name ∷ []))) more
    ∙ onto_more ws w (rest (taken ++ h.name ∷ []))
    ∙ ap (onto ws) (sym step) ∙ so_far

pub one_longer : (ws ws2 : List ℕ) (w i : ℕ) → ws2 ≡ ws ++ w ∷ [] → length ws ≡ i → length ws2 ≡ i + 1
one_longer ws ws2 w i e n = ap length e ∙ length-append ws (w ∷ []) ∙ ap (λ (k : ℕ). k + 1) n

-- a port, or one of the rest
one_wide : (b : Bool) (q : Port) (rest : List Port) (p : Port) → Has (if b then q ∷ rest else rest) p → IsWidth q.width → (Has rest p → IsWidth p.width) → IsWidth p.width
one_wide true q rest p first wide more = wide
one_wide true q rest p (later t) wide more = more t
one_wide false q rest p t wide more = more t

other_wide : (b : Bool) (q : Port) (rest : List Port) (p : Port) → Has (if b then rest else q ∷ rest) p → IsWidth q.width → (Has rest p → IsWidth p.width) → IsWidth p.width
other_wide false q rest p first wide more = wide
other_wide false q rest p (later t) wide more = more t
other_wide true q rest p t wide more = more t

inputs_wide : (hs : List Head) (ws : List ℕ) (p : Port) → AreWidths ws → Has (inputs_of hs ws) p → IsWidth p.width
inputs_wide [] ws p are has = elim has [ ]
inputs_wide (h ∷ hs) [] p are has = elim has [ ]
inputs_wide (h ∷ hs) (w ∷ ws) p are has = one_wide h.is_input (port h.name w) (inputs_of hs ws) p has (are w first) (inputs_wide hs ws p (λ v t. are v (later t)))

outputs_wide : (hs : List Head) (ws : List ℕ) (p : Port) → AreWidths ws → Has (outputs_of hs ws) p → IsWidth p.width
outputs_wide [] ws p are has = elim has [ ]
outputs_wide (h ∷ hs) [] p are has = elim has [ ]
outputs_wide (h ∷ hs) (w ∷ ws) p are has = other_wide h.is_input (port h.name w) (outputs_of hs ws) p has (are w first) (outputs_wide hs ws p (λ v t. are v (later t)))

pub are_ports : (hs : List Head) (ws : List ℕ) (ports : Ports) → AreWidths ws → ports ≡ ports_of hs ws → ArePorts ports
are_ports hs ws ports are e = subst (λ (q : Ports). ArePorts q) (sym e) (record { inputs = λ p has. inputs_wide hs ws p are has; outputs = λ p has. outputs_wide hs ws p are has })
