-- The names of heads are new, one after another.
use Rattle.std.proofs.Common.{◌≡◌, ℕ, Bool, true, false, ◌||◌, ◌&&◌, if◌then◌else◌, List, [], ◌∷◌, ◌++◌, refl, ap, ◌∙◌}
use Rattle.std.specs.Prelude.{None, Some, Result, Ok, Err, ℤ}
use Rattle.std.specs.Str.{bytes_eq}
use Rattle.hc_fault.specs.declared.fault.FaultKind.{FaultKind}
use Rattle.hc_fault.specs.declared.fault.FaultKind.TheVariants.{RepeatedName}
use Rattle.hc_lang.specs.declared.tree.Head.{Head}
use Rattle.hc_lang.specs.declared.tree.CircuitText.{CircuitText}
use Rattle.hc_num.specs.Value.{Bindings, value}
use Rattle.hc_unfold.specs.Names.{Names, Key, meaning, same_key}
use Rattle.hc_unfold.specs.declared.names.Target.{Target}
use Rattle.hc_unfold.specs.Drawing.{and_then, as_width}
use Rattle.hc_statements.specs.PortWidths.{PortWidths, before, at_line, is_among, new_name, width_of, widths_after, repeats, parameters, port_widths}
use Rattle.hc_body.specs.Opened.{AreNew}

-- a name that is not among these has no meaning yet
abbrev AreNamesOf : List (List ℕ) → Names → Type 0
AreNamesOf taken names = (name : List ℕ) → is_among name taken ≡ false → meaning names (name, None) ≡ None

both : (a b : Bool) → (a || b) ≡ false → (a ≡ false) × (b ≡ false)
both true b e = absurd cc
both false b e = (refl, e)

not_among : (n x : List ℕ) (taken : List (List ℕ)) → is_among n (taken ++ x ∷ []) ≡ false → (is_among n taken ≡ false) × (bytes_eq n x ≡ false)
not_among n x [] e = (refl, (both (bytes_eq n x) false e).0)
not_among n x (t ∷ taken) e =
    let parts : (bytes_eq n t ≡ false) × (is_among n (taken ++ x ∷ []) ≡ false) = both (bytes_eq n t) (is_among n (taken ++ x ∷ [])) e in
    let rest : (is_among n taken ≡ false) × (bytes_eq n x ≡ false) = not_among n x taken parts.1 in
    (ap (λ (b : Bool). b || is_among n taken) parts.0 ∙ rest.0, rest.1)

no_meaning : (names : Names) (key : Key) (n : Key × Target) → meaning names key ≡ None → same_key key n.0 ≡ false → meaning (names ++ n ∷ []) key ≡ None
no_meaning [] key n e other = ap (λ (b : Bool). if b then Some n.1 else None) other
no_meaning (m ∷ names) key n e other = by (same_key key m.0) e (λ is. no_meaning names key n is other)
  where
    by : (b : Bool) → (if b then Some m.1 else meaning names key) ≡ None → (meaning names key ≡ None → meaning (names ++ n ∷ []) key ≡ None)
        → (if b then Some m.1 else meaning (names ++ n ∷ []) key) ≡ None
    by true is more = absurd cc
    by false is more = more is

names_more : (taken : List (List ℕ)) (names : Names) (name : List ℕ) (t : Target) → AreNamesOf taken names → AreNamesOf (taken ++ name ∷ []) (names ++ ((name, None), t) ∷ [])
names_more taken names name t of n e =
    let parts : (is_among n taken ≡ false) × (bytes_eq n name ≡ false) = not_among n name taken e in
    no_meaning names (n, None) ((name, None), t) (of n parts.0) (ap (λ (b : Bool). b && true) parts.1)

-- ---- heads with widths

of_before : (r : Result ℕ (ℕ × FaultKind)) (more : PortWidths) (ws : List ℕ) → before r more ≡ Ok ws → ((w : ℕ) × (r ≡ Ok w)) × ((vs : List ℕ) × (more ≡ Ok vs))
of_before (Err f) more ws e = absurd cc
of_before (Ok w) (Err f) ws e = absurd cc
of_before (Ok w) (Ok vs) ws e = ((w, refl), (vs, refl))

of_line : (line : ℕ) (r : Result ℕ FaultKind) (w : ℕ) → at_line line r ≡ Ok w → r ≡ Ok w
of_line line (Err kind) w e = absurd cc
of_line line (Ok v) w e = let same : v ≡ w = cc in ap (λ (x : ℕ). let r : Result ℕ FaultKind = Ok x in r) same

of_name : (r : Result ℕ FaultKind) (taken : List (List ℕ)) (name : List ℕ) (w : ℕ) → and_then r (new_name taken name) ≡ Ok w → is_among name taken ≡ false
of_name (Err kind) taken name w e = absurd cc
of_name (Ok v) taken name w e = by (is_among name taken) refl e
  where
    by : (b : Bool) → is_among name taken ≡ b → (if b then Err RepeatedName else Ok v) ≡ Ok w → is_among name taken ≡ false
    by true is e = absurd cc
    by false is e = is

new_after : (env : Bindings) (taken : List (List ℕ)) (names : Names) (hs : List Head) (ws : List ℕ) → AreNamesOf taken names → widths_after env taken hs ≡ Ok ws → AreNew names hs
new_after env taken names [] ws of e = tt
new_after env taken names (h ∷ hs) ws of e =
    let parts : ((w : ℕ) × (at_line h.line (width_of env taken h) ≡ Ok w)) × ((vs : List ℕ) × (widths_after env (taken ++ h.name ∷ []) hs ≡ Ok vs)) = of_before
    (at_line h.line (width_of env taken h)) (widths_after env (taken ++ h.name ∷ []) hs) ws e in
    let free : is_among h.name taken ≡ false = of_name (and_then (value h.width env) as_width) taken h.name parts.0.0 (of_line h.line (width_of env taken h) parts.0.0 parts.0.1) in
    (of h.name free, λ t. new_after env (taken ++ h.name ∷ []) (names ++ ((h.name, None), t) ∷ []) hs parts.1.0 (names_more taken names h.name t of) parts.1.1)

pub are_new : (c : CircuitText) (args : List ℤ) (ws : List ℕ) → port_widths c args ≡ Ok ws → AreNew [] c.heads
are_new c args ws e = by (repeats [] c.params) e
  where
    by : (b : Bool) → (if b then Err (c.line, RepeatedName) else widths_after (parameters c args) [] c.heads) ≡ Ok ws → AreNew [] c.heads
    by true e = absurd cc
    by false e = new_after (parameters c args) [] [] c.heads ws (λ name free. refl) e
