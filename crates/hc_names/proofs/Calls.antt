-- The calls of a hierarchy, kid by kid.
use Rattle.std.proofs.Common.{◌≡◌, ℕ, ◌+◌, ◌<◌, ◌≤◌, List, [], ◌∷◌, ◌++◌, length, map, drop, get_or, flat_map, refl, sym, ap, subst, ◌∙◌}
use Rattle.std.proofs.lemmas.List.{at_drop_more, map-append}
use Rattle.std.proofs.Math.ListN.{drop_of_length-le}
use Rattle.std.specs.Arc.{arc_value}
use Rattle.std.specs.declared.alloc.Global.{Global}
use Rattle.std.specs.declared.sync.Arc.{Arc}
use Rattle.hc_dbstate.specs.declared.hier.Hier.{Hier, out-Hier}
use Rattle.hc_dbstate.specs.declared.hier.Hier.TheFolds.{fold_out-Hier, map-Hier}
use Rattle.hc_dbstate.specs.declared.hier.Hier.TheOpen.{Hier-F}
use Rattle.hc_dbstate.specs.Elaboration.{HierView, CallView, call_level, hier_view, hier_level, kids_in, walk}
use Rattle.hc_dbstate.proofs.Walks.{kid_views}
use Rattle.hc_names.specs.Naming.{NameRow}
use Rattle.hc_names.specs.Steps.{NamesTo, requests}
use Rattle.hc_names.proofs.Steps.{names_on}

-- the calls of a kid that may be shared
abbrev pub kid_walk : Arc Hier Global → List CallView
kid_walk kid = walk (arc_value kid)

-- the rows after the calls of the kids that are left are those after all
abbrev pub Leads : List (Arc Hier Global) → List (Arc Hier Global) → List NameRow → List NameRow → Type 0
Leads left kids rows now = (end : List NameRow) → NamesTo now (requests (flat_map kid_walk left)) end → NamesTo rows (requests (flat_map kid_walk kids)) end

pub kids_more : (kids : List (Arc Hier Global)) (i : ℕ) (kid : Arc Hier Global) (rows now after : List NameRow) → i < length kids → kid ≡ get_or kids i kid
    → Leads (drop i kids) kids rows now → NamesTo now (requests (kid_walk kid)) after → Leads (drop (i + 1) kids) kids rows after
kids_more kids i kid rows now after lt is leads one end rest =
    leads end (subst (λ (calls : List CallView). NamesTo now (requests calls) end) (sym next)
    (subst (λ (calls : List NameRow). NamesTo now calls end) (sym (map-append _ (kid_walk kid) (flat_map kid_walk (drop (i + 1) kids))))
    (names_on (requests (kid_walk kid)) (requests (flat_map kid_walk (drop (i + 1) kids))) now after end one rest)))
  where
    next : flat_map kid_walk (drop i kids) ≡ kid_walk kid ++ flat_map kid_walk (drop (i + 1) kids)
    next = at_drop_more (flat_map kid_walk) kids i kid lt ∙ ap (λ (k : Arc Hier Global). kid_walk k ++ flat_map kid_walk (drop (i + 1) kids)) (sym is)

walks_of : (kids : List (Arc Hier Global)) → flat_map (λ (k : HierView). k.calls) (map hier_view (map arc_value kids)) ≡ flat_map kid_walk kids
walks_of [] = refl
walks_of (k ∷ kids) = ap (λ (calls : List CallView). kid_walk k ++ calls) (walks_of kids)

-- those of a call over the views of its kids
requests_over : (views : List HierView) (kids : List (Arc Hier Global)) (own : CallView) → views ≡ map hier_view (map arc_value kids)
    → requests (flat_map (λ (k : HierView). k.calls) views ++ own ∷ []) ≡ requests (flat_map kid_walk kids) ++ (own.own.entry, own.own.name) ∷ []
requests_over views kids own is =
    ap (λ (vs : List HierView). requests (flat_map (λ (k : HierView). k.calls) vs ++ own ∷ [])) is
    ∙ map-append (λ (c : CallView). (c.own.entry, c.own.name)) (flat_map (λ (k : HierView). k.calls) (map hier_view (map arc_value kids))) (own ∷ [])
    ∙ ap (λ (calls : List CallView). requests calls ++ (own.own.entry, own.own.name) ∷ []) (walks_of kids)

-- the calls of a hierarchy: those of the kids, and then its own
pub walk_is : (h : Hier) → requests (walk h) ≡ requests (flat_map kid_walk (out-Hier h).kids) ++ ((out-Hier h).entry, (out-Hier h).name) ∷ []
walk_is h =
    let level : Hier-F HierView = map-Hier Hier HierView hier_view (out-Hier h) in
    ap (λ (v : HierView). requests v.calls) (fold_out-Hier HierView hier_level h)
    ∙ requests_over (kids_in level) (out-Hier h).kids (call_level level) (kid_views (out-Hier h))

pub kids_done : (h : Hier) (kids : List (Arc Hier Global)) (i : ℕ) (rows now after : List NameRow) → length kids ≤ i → kids ≡ (out-Hier h).kids
    → Leads (drop i kids) kids rows now → NamesTo now (((out-Hier h).entry, (out-Hier h).name) ∷ []) after → NamesTo rows (requests (walk h)) after
kids_done h kids i rows now after le is leads own =
    subst (λ (calls : List NameRow). NamesTo rows calls after) (sym
    (walk_is h ∙ ap (λ (ks : List (Arc Hier Global)). requests (flat_map kid_walk ks) ++ ((out-Hier h).entry, (out-Hier h).name) ∷ []) (sym is)))
    (names_on (requests (flat_map kid_walk kids)) (((out-Hier h).entry, (out-Hier h).name) ∷ []) rows now after
    (leads now (subst (λ (left : List (Arc Hier Global)). NamesTo now (requests (flat_map kid_walk left)) now) (sym (drop_of_length-le kids le)) refl)) own)
