-- The modules of a hierarchy, row by row.
use Rattle.std.proofs.Common.{◌≡◌, ℕ, ◌+◌, ◌≤◌, Bool, true, false, inl, inr, List, [], ◌∷◌, ◌++◌, length, drop, get_or, append_assoc, append-nil, refl, sym, ap, subst, ◌∙◌}
use Rattle.std.specs.Prelude.{Option, Some, slice_get}
use Rattle.std.specs.List.{join_with_byte}
use Rattle.std.proofs.Math.ListN.{drop_of_length-le}
use Rattle.std.proofs.lemmas.Option.{slice_get_within, slice_get-get_or}
use Rattle.std.proofs.lemmas.List.{drop_more}
use Rattle.hc_canon.specs.declared.form.EntryId.{EntryId}
use Rattle.hc_canon.specs.FormView.{FormView}
use Rattle.hc_names.specs.Naming.{NameRow}
use Rattle.hc_dbstate.specs.Uses.{Uses}
use Rattle.hc_modules.specs.HierarchyText.{AreTexts, IsHierarchyText}
use Rattle.hc_modules.specs.Pieces.{is_empty, parted, Appends, IsPrinted}

pub prints_none : (entries : List FormView) (top : EntryId) (rows : List NameRow) → IsPrinted entries top rows 0 true []
prints_none entries top rows = record { texts = []; rest = λ more h. h; text_is = refl; none_yet = refl }

pub not_both : (b : Bool) → b ≡ true → b ≡ false → ⊥
not_both b t f = cc

join_more : (texts : List (List ℕ)) (text : List ℕ) → join_with_byte 10 (texts ++ text ∷ []) ≡ join_with_byte 10 texts ++ parted (is_empty texts) text
join_more [] text = refl
join_more (t ∷ []) text = refl
join_more (t ∷ u ∷ texts) text = ap (λ (l : List ℕ). t ++ (10 ∷ l)) (join_more (u ∷ texts) text) ∙ sym (append_assoc t (10 ∷ join_with_byte 10 (u ∷ texts)) (10 ∷ text))

same_row : (a b : NameRow) → ◌≡◌ {A = Option NameRow} (Some a) (Some b) → a ≡ b
same_row a b e = cc

row_at : (rows : List NameRow) (place : ℕ) (row : NameRow) → slice_get rows place ≡ Some row → drop place rows ≡ row ∷ drop (place + 1) rows
row_at rows place row at =
    let lt = slice_get_within rows place row at in
    drop_more rows place row lt ∙ ap (λ (r : NameRow). r ∷ drop (place + 1) rows) (same_row (get_or rows place row) row (sym (slice_get-get_or rows place row lt) ∙ at))

not_empty : (texts : List (List ℕ)) (text : List ℕ) → false ≡ is_empty (texts ++ text ∷ [])
not_empty [] text = refl
not_empty (t ∷ texts) text = refl

module _ (entries : List FormView) (top : EntryId) (rows : List NameRow) where
  -- a row whose entry is used
  pub prints_row : (place : ℕ) (first : Bool) (out new : List ℕ) (row : NameRow) (form : FormView) → slice_get rows place ≡ Some row → Uses entries top row.0
      → slice_get entries row.0.0 ≡ Some form → Appends form rows row.1 first out new → IsPrinted entries top rows place first out
      → IsPrinted entries top rows (place + 1) false new
  prints_row place first out new row form at uses found (text, is, made) p = record {
    texts = p.texts ++ text ∷ [];
    rest = λ more h. subst (AreTexts entries top rows rows) (sym (append_assoc p.texts (text ∷ []) more))
        (p.rest (text ∷ more) (subst (λ (left : List NameRow). AreTexts entries top rows left (text ∷ more)) (sym (row_at rows place row at))
        (inl (uses, (text, more, record { form = form; found = found; text_is = is }, refl, h)))));
    text_is = made ∙ ap (λ (t : List ℕ). t ++ parted first text) p.text_is ∙ ap (λ (b : Bool). join_with_byte 10 p.texts ++ parted b text) p.none_yet ∙ sym (join_more p.texts text);
    none_yet = not_empty p.texts text;
  }

  -- a row whose entry is not used
  pub passes_row : (place : ℕ) (first : Bool) (out : List ℕ) (row : NameRow) → slice_get rows place ≡ Some row → (Uses entries top row.0 → ⊥)
      → IsPrinted entries top rows place first out → IsPrinted entries top rows (place + 1) first out
  passes_row place first out row at unused p = record {
    texts = p.texts;
    rest = λ more h. p.rest more (subst (λ (left : List NameRow). AreTexts entries top rows left more) (sym (row_at rows place row at)) (inr (unused, h)));
    text_is = p.text_is;
    none_yet = p.none_yet;
  }

  -- no row is left
  pub prints_all : (place : ℕ) (first : Bool) (out : List ℕ) → length rows ≤ place → IsPrinted entries top rows place first out → IsHierarchyText entries top rows out
  prints_all place first out le p = record {
    texts = p.texts ++ [];
    modules = p.rest [] (subst (λ (left : List NameRow). AreTexts entries top rows left []) (sym (drop_of_length-le rows le)) refl);
    text_is = p.text_is ∙ ap (join_with_byte 10) (sym (append-nil p.texts));
  }
