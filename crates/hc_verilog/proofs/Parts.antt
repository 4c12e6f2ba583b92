-- The text of a module in its parts.
use Rattle.std.proofs.Common.{◌≡◌, ℕ, List, [], ◌∷◌, ◌++◌, map, length, refl, sym, ap, ◌∙◌, append_assoc, append-nil, arith}
use Rattle.std.specs.Prelude.{flat_map, codes}
use Rattle.std.specs.List.{enumerate_from, zip}
use Rattle.hc_bits.specs.Digits.{lines_text}
use Rattle.hc_signal.specs.declared.signal.WritePort.{WritePort}
use Rattle.hc_signal.specs.declared.signal.Memory.{Memory}
use Rattle.hc_signal.specs.declared.signal.Instance.{Instance}
use Rattle.hc_signal.specs.Graph.{Graph, inst}
use Rattle.hc_naming.specs.ModuleNames.{Named, vertex, numbered_nodes, inner_nodes}
use Rattle.hc_verilog.specs.Templates.{header, input_line, output_line, with_commas, clocked, write_line, write_lines, memory_lines, connection_line, result_line, instance_lines, all_instance_lines, output_name, declaration, memory_declaration, item, module_lines}
use Rattle.hc_verilog.proofs.Texts.{lines_append}

module _ (name : Named → List ℕ) where
  pub header_parts : (g : Graph) (title : List ℕ) → lines_text (header name g title) ≡ (codes "module " ++ title ++ codes " (\n  input clock,\n")
      ++ (lines_text (map (input_line name) (enumerate_from 0 g.ports.inputs)) ++ (lines_text (with_commas (map (output_line name) (zip g.outputs g.ports.outputs))) ++ codes ");\n"))
  unfolding header
  header_parts g title =
      let ins : List (List ℕ) = map (input_line name) (enumerate_from 0 g.ports.inputs) in
      let outs : List (List ℕ) = with_commas (map (output_line name) (zip g.outputs g.ports.outputs)) in
      ap (λ t. ((codes "module " ++ title ++ codes " (") ++ 10 ∷ []) ++ (codes "  input clock,\n" ++ t))
      (lines_append ins (outs ++ codes ");" ∷ []) ∙ ap (λ t. lines_text ins ++ t) (lines_append outs (codes ");" ∷ [])))
      ∙ joined (codes "module ") title (lines_text ins ++ (lines_text outs ++ codes ");\n"))
    where
      joined : (m t rest : List ℕ) → ((m ++ t ++ codes " (") ++ 10 ∷ []) ++ (codes "  input clock,\n" ++ rest) ≡ (m ++ t ++ codes " (\n  input clock,\n") ++ rest
      joined m t rest = append_assoc (m ++ t ++ codes " (") (10 ∷ []) (codes "  input clock,\n" ++ rest) ∙ append_assoc (m ++ t) (codes " (") (codes "\n  input clock,\n" ++ rest)
          ∙ sym (append_assoc (m ++ t) (codes " (\n  input clock,\n") rest)

  pub instance_parts : (title : List ℕ) (output : ℕ → List ℕ) (i : ℕ) (it : Instance)
      → lines_text (instance_lines name title output (i, it)) ≡ (codes "  " ++ title ++ codes " " ++ name (vertex (inst i)) ++ codes " (\n    .clock(clock),\n")
      ++ (lines_text (map (connection_line name) (zip it.ports.inputs it.conns)) ++ (lines_text (with_commas (map (result_line output) (enumerate_from 0 it.ports.outputs))) ++ codes "  );\n"))
  unfolding instance_lines
  instance_parts title output i it =
      let ins : List (List ℕ) = map (connection_line name) (zip it.ports.inputs it.conns) in
      let outs : List (List ℕ) = with_commas (map (result_line output) (enumerate_from 0 it.ports.outputs)) in
      ap (λ t. ((codes "  " ++ title ++ codes " " ++ name (vertex (inst i)) ++ codes " (") ++ 10 ∷ []) ++ (codes "    .clock(clock),\n" ++ t))
      (lines_append ins (outs ++ codes "  );" ∷ []) ∙ ap (λ t. lines_text ins ++ t) (lines_append outs (codes "  );" ∷ [])))
      ∙ joined (codes "  " ++ title ++ codes " " ++ name (vertex (inst i))) (lines_text ins ++ (lines_text outs ++ codes "  );\n"))
    where
      joined : (t rest : List ℕ) → ((t ++ codes " (") ++ 10 ∷ []) ++ (codes "    .clock(clock),\n" ++ rest) ≡ (t ++ codes " (\n    .clock(clock),\n") ++ rest
      joined t rest = append_assoc (t ++ codes " (") (10 ∷ []) (codes "    .clock(clock),\n" ++ rest) ∙ append_assoc t (codes " (") (codes "\n    .clock(clock),\n" ++ rest)
          ∙ sym (append_assoc t (codes " (\n    .clock(clock),\n") rest)

  writes_none : (m : ℕ) (ws : List WritePort) → length ws ≡ 0 → write_lines name m ws ≡ []
  writes_none m [] e = refl
  writes_none m (w ∷ ws) e = absurd (omega (arith, e))

  writes_some : (m : ℕ) (ws : List WritePort) → (length ws ≡ 0 → ⊥) → write_lines name m ws ≡ clocked (map (write_line name m) ws)
  writes_some m [] e = absurd (e refl)
  writes_some m (w ∷ ws) e = refl

  pub memory_none : (m : ℕ) (memory : Memory) (out : List ℕ) → length memory.writes ≡ 0 → out ≡ out ++ lines_text (memory_lines name (m, memory))
  unfolding memory_lines
  memory_none m memory out e = sym (ap (λ ls. out ++ lines_text ls) (writes_none m memory.writes e) ∙ append-nil out)

  pub memory_some : (m : ℕ) (memory : Memory) → (length memory.writes ≡ 0 → ⊥) → lines_text (clocked (map (write_line name m) memory.writes)) ≡ lines_text (memory_lines name (m, memory))
  unfolding memory_lines
  memory_some m memory e = sym (ap lines_text (writes_some m memory.writes e))

  pub module_parts : (g : Graph) (modules : ℕ → List ℕ) (title : List ℕ) → lines_text (module_lines name g modules title) ≡ lines_text (header name g title)
      ++ (lines_text (map (declaration name) (inner_nodes g)) ++ (lines_text (map (memory_declaration name) (enumerate_from 0 g.memories))
      ++ (lines_text (flat_map (item name g) (numbered_nodes g)) ++ (lines_text (flat_map (memory_lines name) (enumerate_from 0 g.memories))
      ++ (lines_text (all_instance_lines name modules (output_name name g) (enumerate_from 0 g.instances)) ++ codes "endmodule\n")))))
  unfolding module_lines
  module_parts g modules title =
      let h : List (List ℕ) = header name g title in
      let d : List (List ℕ) = map (declaration name) (inner_nodes g) in
      let m : List (List ℕ) = map (memory_declaration name) (enumerate_from 0 g.memories) in
      let i : List (List ℕ) = flat_map (item name g) (numbered_nodes g) in
      let w : List (List ℕ) = flat_map (memory_lines name) (enumerate_from 0 g.memories) in
      let n : List (List ℕ) = all_instance_lines name modules (output_name name g) (enumerate_from 0 g.instances) in
      let e : List (List ℕ) = codes "endmodule" ∷ [] in
      lines_append h (d ++ (m ++ (i ++ (w ++ (n ++ e)))))
      ∙ ap (λ t. lines_text h ++ t) (lines_append d (m ++ (i ++ (w ++ (n ++ e))))
      ∙ ap (λ t. lines_text d ++ t) (lines_append m (i ++ (w ++ (n ++ e)))
      ∙ ap (λ t. lines_text m ++ t) (lines_append i (w ++ (n ++ e))
      ∙ ap (λ t. lines_text i ++ t) (lines_append w (n ++ e)
      ∙ ap (λ t. lines_text w ++ t) (lines_append n e)))))
