-- The tables and the text of a module, put together.
use Rattle.std.proofs.Common.{◌≡◌, ℕ, zero, suc, List, [], ◌∷◌, ◌++◌, map, refl, sym, ap, subst, ◌∙◌, true≢false}
use Rattle.std.specs.Prelude.{slice_get, Option, Some, None, IsSome, unwrap_or, option_map, option_and_then, flat_map, codes}
use Rattle.std.specs.List.{enumerate_from}
use Rattle.std.specs.Option.{option_map_or}
use Rattle.hc_bits.specs.Digits.{lines_text}
use Rattle.hc_signal.specs.Member.{Has, first, later}
use Rattle.hc_signal.specs.declared.signal.NodeRow.{NodeRow}
use Rattle.hc_signal.specs.declared.signal.Memory.{Memory}
use Rattle.hc_signal.specs.declared.signal.Instance.{Instance}
use Rattle.hc_signal.specs.Graph.{Graph, node}
use Rattle.hc_canon.specs.declared.form.EntryId.{EntryId}
use Rattle.hc_canon.specs.FormView.{FormView}
use Rattle.hc_names.specs.NameRows.{name_of_entry}
use Rattle.hc_naming.specs.ModuleNames.{Named, vertex, numbered_nodes, inner_nodes}
use Rattle.hc_naming.specs.NameTable.{name_by, HasNames}
use Rattle.hc_naming.specs.declared.names.ModuleNames.{ModuleNames}
use Rattle.hc_verilog.specs.Results.{result_name, AreResults}
use Rattle.hc_verilog.specs.Templates.{header, declaration, memory_declaration, item, memory_lines, all_instance_lines, output_name, module_lines}
use Rattle.hc_verilog.specs.ModuleText.{module_of, AreNamed, IsFormText}
use Rattle.hc_verilog.proofs.Parts.{module_parts}

-- ---- outputs of instances

pub results_named : (name : Named → List ℕ) (g : Graph) (entries : List ((ℕ × ℕ) × ℕ)) → AreResults (numbered_nodes g) entries → result_name name entries ≡ output_name name g
unfolding result_name output_name
results_named name g entries right = λ j i port. (ap (λ (o : Option ℕ). option_map_or (λ n. name (vertex (node n))) o []) (right.right i port) ∙ mapped _) j
  where
    mapped : (o : Option (ℕ × NodeRow)) → option_map_or (λ n. name (vertex (node n))) (option_map (λ (p : ℕ × NodeRow). p.0) o) [] ≡ option_map_or (λ (p : ℕ × NodeRow). name (vertex (node p.0))) o []
    mapped None = refl
    mapped (Some p) = refl

-- ---- the module

pub module_by : (name : Named → List ℕ) (g circuit : Graph) (modules others : ℕ → List ℕ) (title : List ℕ) (inner nodes : List (ℕ × NodeRow)) (memories again : List Memory)
    (instances : List Instance) (outputs : ℕ → ℕ → List ℕ)
    → circuit ≡ g → inner ≡ inner_nodes g → nodes ≡ numbered_nodes g → memories ≡ g.memories → again ≡ g.memories → instances ≡ g.instances → outputs ≡ output_name name g → others ≡ modules
    → lines_text (module_lines name g modules title) ≡ lines_text (header name circuit title)
    ++ (lines_text (map (declaration name) inner) ++ (lines_text (map (memory_declaration name) (enumerate_from 0 memories))
    ++ (lines_text (flat_map (item name circuit) nodes) ++ (lines_text (flat_map (memory_lines name) (enumerate_from 0 again))
    ++ (lines_text (all_instance_lines name others outputs (enumerate_from 0 instances)) ++ codes "endmodule\n")))))
module_by name g circuit modules others title inner nodes memories again instances outputs G I J M A S O K =
    module_parts name g modules title
    ∙ (sym λ i. lines_text (header name (G i) title)
    ++ (lines_text (map (declaration name) (I i)) ++ (lines_text (map (memory_declaration name) (enumerate_from 0 (M i)))
    ++ (lines_text (flat_map (item name (G i)) (J i)) ++ (lines_text (flat_map (memory_lines name) (enumerate_from 0 (A i)))
    ++ (lines_text (all_instance_lines name (K i) (O i) (enumerate_from 0 (S i))) ++ codes "endmodule\n"))))))

some_is : (o : Option (List ℕ)) → IsSome o → o ≡ Some (unwrap_or o [])
some_is None h = absurd (true≢false (sym h))
some_is (Some x) h = refl

has_at : {X : Type 0} (xs : List X) (k : ℕ) (x : X) → slice_get xs k ≡ Some x → Has xs x
has_at [] k x e = absurd (cc)
has_at (y ∷ xs) zero x e = let same : y ≡ x = cc in subst (λ z. Has (y ∷ xs) z) same first
has_at (y ∷ xs) (suc k) x e = later (has_at xs k x e)

pub form_text_is : (form : FormView) (rows : List (EntryId × List ℕ)) (title text : List ℕ) (names : ModuleNames) → AreNamed rows form.kids → HasNames form.circuit names
    → text ≡ lines_text (module_lines (name_by names) form.circuit (module_of rows form.kids) title) → IsFormText form rows title text
unfolding module_of
form_text_is form rows title text names named taken is = record {
  modules = module_of rows form.kids;
  named = λ i kid at. some_is (name_of_entry rows kid) (named kid (has_at form.kids i kid at)) ∙ ap (λ (o : Option EntryId). Some (unwrap_or (option_and_then (name_of_entry rows) o) [])) (sym at);
  text_is = (taken.0, taken.1, is ∙ ap (λ n. lines_text (module_lines n form.circuit (module_of rows form.kids) title)) taken.2);
}
