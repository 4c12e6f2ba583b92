-- The walk of a hierarchy.
use Rattle.std.proofs.Common.{◌≡◌, ℕ, ◌⊎◌, inl, inr, List, [], ◌∷◌, ◌++◌, map, flat_map, refl, sym, ap, subst, ◌∙◌}
use Rattle.std.specs.Arc.{arc_value}
use Rattle.std.specs.declared.alloc.Global.{Global}
use Rattle.std.specs.declared.sync.Arc.{Arc}
use Rattle.hc_signal.specs.Member.{Has, first, later}
use Rattle.hc_dbstate.specs.declared.hier.Hier.{Hier, out-Hier}
use Rattle.hc_dbstate.specs.declared.hier.Hier.TheOpen.{Hier-F}
use Rattle.hc_dbstate.specs.declared.hier.Hier.TheFolds.{fold_out-Hier, fold-roll-Hier, ind-Hier, map-Hier}
use Rattle.hc_dbstate.specs.Elaboration.{HierView, CallRow, CallView, hier_view, hier_level, call_level, kids_in, walk}

has_left : {X : Type 0} {xs : List X} (ys : List X) {x : X} → Has xs x → Has (xs ++ ys) x
has_left ys first = first
has_left ys (later h) = later (has_left ys h)

has_right : {X : Type 0} (xs : List X) {ys : List X} {x : X} → Has ys x → Has (xs ++ ys) x
has_right [] h = h
has_right (y ∷ xs) h = later (has_right xs h)

has_cases : {X : Type 0} (xs ys : List X) {x : X} → Has (xs ++ ys) x → Has xs x ⊎ Has ys x
has_cases [] ys h = inr h
has_cases (x ∷ xs) ys first = inl first
has_cases (x ∷ xs) ys (later h) = elim (has_cases xs ys h) [ inl l ↦ inl (later l) | inr r ↦ inr r ]

-- ---- what calls share

abbrev shared_map : {X Y : Type 0} → (X → Y) → Arc X Global → Arc Y Global
shared_map f a = record { ptr = a.ptr; value = f a.value }

-- a function of the values of shared ones
pub of_shared : {X Y : Type 0} (f : X → Y) (xs : List (Arc X Global)) → map arc_value (map (shared_map f) xs) ≡ map f (map arc_value xs)
of_shared f [] = refl
of_shared f (x ∷ xs) = ap (λ ys. f (arc_value x) ∷ ys) (of_shared f xs)

-- the views of the kids of a hierarchy
pub kid_views : (x : Hier-F Hier) → kids_in (map-Hier Hier HierView hier_view x) ≡ map hier_view (kids_in x)
kid_views x = of_shared hier_view x.kids

-- ---- walks

-- a hierarchy's view ends with its own call
abbrev Ends : HierView → Type 0
Ends v = (calls : List CallView) × (last : CallView) × (v.calls ≡ calls ++ last ∷ []) × (last.own ≡ v.own)

pub ends_itself : (h : Hier) → Ends (hier_view h)
ends_itself h = subst Ends (sym (fold_out-Hier HierView hier_level h)) (_, _, refl, refl)

-- the calls of the instances of each call are among the calls
abbrev IsClosed : HierView → Type 0
IsClosed v = (call : CallView) (kid : CallRow) → Has v.calls call → Has call.kids kid → (other : CallView) × Has v.calls other × (other.own ≡ kid)

abbrev own_of : HierView → CallRow
own_of v = v.own

abbrev calls_of : HierView → List CallView
calls_of v = v.calls

abbrev Among : List CallView → CallRow → Type 0
Among calls kid = (other : CallView) × Has calls other × (other.own ≡ kid)

in_left : (xs ys : List CallView) (kid : CallRow) → Among xs kid → Among (xs ++ ys) kid
in_left xs ys kid a = (a.0, has_left ys a.1, a.2)

in_right : (xs ys : List CallView) (kid : CallRow) → Among ys kid → Among (xs ++ ys) kid
in_right xs ys kid a = (a.0, has_right xs a.1, a.2)

-- the own call of each hierarchy of a list
own_among : (hs : List Hier) (kid : CallRow) → Has (map own_of (map hier_view hs)) kid → Among (flat_map calls_of (map hier_view hs)) kid
own_among [] kid h = elim h [ ]
own_among (x ∷ hs) kid first =
    let e = ends_itself x in
    in_left (hier_view x).calls _ _ (e.1, subst (λ (calls : List CallView). Has calls e.1) (sym e.2) (has_right e.0 first), e.3)
own_among (x ∷ hs) kid (later h) = in_right (hier_view x).calls _ kid (own_among hs kid h)

abbrev Closed : Type 0
Closed = (h : Hier) × IsClosed (hier_view h)

kids_closed : (es : List Closed) → (call : CallView) (kid : CallRow) → Has (flat_map calls_of (map hier_view (map (λ (e : Closed). e.0) es))) call → Has call.kids kid
    → Among (flat_map calls_of (map hier_view (map (λ (e : Closed). e.0) es))) kid
kids_closed [] call kid h k = elim h [ ]
kids_closed (e ∷ es) call kid h k = elim (has_cases (hier_view e.0).calls _ h) [
  | inl here ↦ in_left (hier_view e.0).calls _ kid (e.1 call kid here k)
  | inr there ↦ in_right (hier_view e.0).calls _ kid (kids_closed es call kid there k)
]

only_one : {X : Type 0} {x y : X} → Has (x ∷ []) y → y ≡ x
only_one first = refl
only_one (later h) = elim h [ ]

level_closed : (hs : List Hier) (own : CallView) → own.kids ≡ map own_of (map hier_view hs)
    → ((call : CallView) (kid : CallRow) → Has (flat_map calls_of (map hier_view hs)) call → Has call.kids kid → Among (flat_map calls_of (map hier_view hs)) kid)
    → (call : CallView) (kid : CallRow) → Has (flat_map calls_of (map hier_view hs) ++ own ∷ []) call → Has call.kids kid → Among (flat_map calls_of (map hier_view hs) ++ own ∷ []) kid
level_closed hs own are below call kid h k = elim (has_cases (flat_map calls_of (map hier_view hs)) (own ∷ []) h) [
  | inl inner ↦ in_left _ (own ∷ []) kid (below call kid inner k)
  | inr last ↦ in_left _ (own ∷ []) kid (own_among hs kid (subst (λ (kids : List CallRow). Has kids kid) (ap (λ (c : CallView). c.kids) (only_one last) ∙ are) k))
]

-- the same of a call over the views of its kids
abbrev ClosedOver : List HierView → CallView → Type 0
ClosedOver views own = (call : CallView) (kid : CallRow) → Has (flat_map calls_of views ++ own ∷ []) call → Has call.kids kid → Among (flat_map calls_of views ++ own ∷ []) kid

abbrev Below : List Hier → Type 0
Below hs = (call : CallView) (kid : CallRow) → Has (flat_map calls_of (map hier_view hs)) call → Has call.kids kid → Among (flat_map calls_of (map hier_view hs)) kid

kids_below : (x : Hier-F Hier) (y : Hier-F Closed) → map-Hier Closed Hier (λ e. e.0) y ≡ x → Below (kids_in x)
kids_below x y is = subst Below (sym (of_shared (λ (e : Closed). e.0) y.kids) ∙ ap kids_in is) (kids_closed (kids_in y))

over_closed : (x : Hier-F Hier) → Below (kids_in x) → IsClosed (hier_level (map-Hier Hier HierView hier_view x))
over_closed x below =
    let own : CallView = call_level (map-Hier Hier HierView hier_view x) in
    subst (λ views. ClosedOver views own) (sym (kid_views x)) (level_closed (kids_in x) own (ap (map own_of) (kid_views x)) below)

closed : (h : Hier) → IsClosed (hier_view h)
closed = ind-Hier (λ h. IsClosed (hier_view h)) (λ x y is. subst IsClosed (sym (fold-roll-Hier HierView hier_level x)) (over_closed x (kids_below x y is)))

pub has_kids : (h : Hier) (call : CallView) (kid : CallRow) → Has (walk h) call → Has call.kids kid → (other : CallView) × Has (walk h) other × (other.own ≡ kid)
has_kids h = closed h
