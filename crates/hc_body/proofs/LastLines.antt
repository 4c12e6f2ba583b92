-- Lines of heads, one after another.
use Rattle.std.proofs.Common.{◌≡◌, ℕ, suc, ◌+◌, ◌<◌, Bool, true, false, if◌then◌else◌, List, ◌∷◌, drop, length, get_or, sym, ap, ◌∙◌, add-one, drop-cons}
use Rattle.std.specs.Prelude.{filter, Option, Some}
use Rattle.hc_lang.specs.declared.tree.Head.{Head}
use Rattle.hc_body.specs.BodyOf.{line_at, is_of}

cut : (b : Bool) (hs : List Head) (i : ℕ) (h : Head) (t : Bool) → i < length hs → h ≡ get_or hs i h → is_of b h ≡ t
    → filter (is_of b) (drop i hs) ≡ (if t then h ∷ filter (is_of b) (drop (i + 1) hs) else filter (is_of b) (drop (i + 1) hs))
cut b hs i h t within item is =
    let parts : drop i hs ≡ h ∷ drop (i + 1) hs = rw add-one (drop-cons hs i h within ∙ ap (λ (x : Head). x ∷ drop (suc i) hs) (sym item)) in
    ap (filter (is_of b)) parts
    ∙ ap (λ (u : Bool). if u then h ∷ filter (is_of b) (drop (i + 1) hs) else filter (is_of b) (drop (i + 1) hs)) is

pub passed_over : (b : Bool) (hs : List Head) (i left : ℕ) (h : Head) (all : Option ℕ) → i < length hs → h ≡ get_or hs i h → is_of b h ≡ false
    → line_at (filter (is_of b) (drop i hs)) left ≡ all → line_at (filter (is_of b) (drop (i + 1) hs)) left ≡ all
passed_over b hs i left h all within item is before = ap (λ (l : List Head). line_at l left) (sym (cut b hs i h false within item is)) ∙ before

pub counted_off : (b : Bool) (hs : List Head) (i left less : ℕ) (h : Head) (all : Option ℕ) → i < length hs → h ≡ get_or hs i h → is_of b h ≡ true → left ≡ suc less
    → line_at (filter (is_of b) (drop i hs)) left ≡ all → line_at (filter (is_of b) (drop (i + 1) hs)) less ≡ all
counted_off b hs i left less h all within item is more before =
    ap (λ (k : ℕ). line_at (h ∷ filter (is_of b) (drop (i + 1) hs)) k) (sym more)
    ∙ ap (λ (l : List Head). line_at l left) (sym (cut b hs i h true within item is)) ∙ before

pub met : (b : Bool) (hs : List Head) (i left : ℕ) (h : Head) (all : Option ℕ) → i < length hs → h ≡ get_or hs i h → is_of b h ≡ true → left ≡ 0
    → line_at (filter (is_of b) (drop i hs)) left ≡ all → all ≡ Some h.line
met b hs i left h all within item is none before =
    sym before ∙ ap (λ (l : List Head). line_at l left) (cut b hs i h true within item is) ∙ ap (λ (k : ℕ). line_at (h ∷ filter (is_of b) (drop (i + 1) hs)) k) none
