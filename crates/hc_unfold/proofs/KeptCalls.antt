-- Each call keeps the form of a graph.
use Rattle.std.proofs.Common.{◌==◌, List, [], ◌∷◌, length, arith}
use Rattle.std.specs.Prelude.{ℤ}
use Rattle.std.proofs.lemmas.Bool.{eqb-true}
use Rattle.hc_fault.specs.declared.fault.FaultKind.TheVariants.{UnknownOp}
use Rattle.hc_bits.specs.Catalogue.{arity}
use Rattle.hc_bits.specs.declared.kind.OpKind.{OpKind}
use Rattle.hc_sigtext.specs.declared.tree.CallWord.{CallWord}
use Rattle.hc_sigtext.specs.declared.tree.CallWord.TheVariants as word
use Rattle.hc_signal.specs.Member.{first, later}
use Rattle.hc_signal.specs.declared.signal.NodeId.{NodeId}
use Rattle.hc_signal.specs.declared.signal.Op2.TheVariants as op2
use Rattle.hc_signal.specs.Graph.{Graph}
use Rattle.hc_signal.specs.Builds.{AreNodes, IsNode}
use Rattle.hc_unfold.specs.Formed.{IsFormed}
use Rattle.hc_unfold.specs.Drawing.{constant, given, number_bits, operation}
use Rattle.hc_unfold.specs.Calls.{adjusted, binary, called, choice, concatenation, const, const_alone, of_signals, operated, plain, select_from, ternary, unary, with_number, with_numbers}
use Rattle.hc_unfold.proofs.Keeping.{Keeps, kept_given, kept_rule, kept_then}
use Rattle.hc_unfold.proofs.KeptPrimitives.{IsOfWidth, bits_of_numbers, kept_cat, kept_constant, kept_invert, kept_mux, kept_operation, kept_select, kept_two}
use Rattle.hc_unfold.proofs.KeptDerived.{kept_lts, kept_msb, kept_mux2, kept_ne, kept_not_lt, kept_part, kept_repeat, kept_sll, kept_sra, kept_sresize, kept_srl, kept_uresize}

module _ (g : Graph) (l : IsFormed g) where
  kept_unary : (w : CallWord) (x : NodeId) → IsNode g x → Keeps g IsNode (unary w x g)
  kept_unary word.Not x nx = kept_invert g l x nx
  kept_unary word.Msb x nx = kept_msb g l x nx
  kept_unary word.Lsb x nx = kept_part g l x 0 0 nx
  kept_unary other x nx = tt

  kept_binary : (w : CallWord) (x y : NodeId) → IsNode g x → IsNode g y → Keeps g IsNode (binary w x y g)
  kept_binary word.Add x y nx ny = kept_two g l op2.Add x y nx ny
  kept_binary word.Sub x y nx ny = kept_two g l op2.Sub x y nx ny
  kept_binary word.Mulu x y nx ny = kept_two g l op2.Mulu x y nx ny
  kept_binary word.Muls x y nx ny = kept_two g l op2.Muls x y nx ny
  kept_binary word.And x y nx ny = kept_two g l op2.And x y nx ny
  kept_binary word.Or x y nx ny = kept_two g l op2.Or x y nx ny
  kept_binary word.Xor x y nx ny = kept_two g l op2.Xor x y nx ny
  kept_binary word.Eq x y nx ny = kept_two g l op2.Eq x y nx ny
  kept_binary word.Lt x y nx ny = kept_two g l op2.Lt x y nx ny
  kept_binary word.Ne x y nx ny = kept_ne g l x y nx ny
  kept_binary word.Gt x y nx ny = kept_two g l op2.Lt y x ny nx
  kept_binary word.Le x y nx ny = kept_not_lt g l y x ny nx
  kept_binary word.Ge x y nx ny = kept_not_lt g l x y nx ny
  kept_binary word.Lts x y nx ny = kept_lts g l x y nx ny
  kept_binary other x y nx ny = tt

  kept_ternary : (w : CallWord) (s x y : NodeId) → IsNode g s → IsNode g x → IsNode g y → Keeps g IsNode (ternary w s x y g)
  kept_ternary word.Mux2 s x y ns nx ny = kept_mux2 g l s x y ns nx ny
  kept_ternary other s x y ns nx ny = tt

  kept_adjusted : (w : CallWord) (x : NodeId) (n : ℤ) → IsNode g x → Keeps g IsNode (adjusted w x n g)
  kept_adjusted word.Uresize x n nx = kept_uresize g l x n nx
  kept_adjusted word.Sresize x n nx = kept_sresize g l x n nx
  kept_adjusted word.Sll x n nx = kept_sll g l x n nx
  kept_adjusted word.Srl x n nx = kept_srl g l x n nx
  kept_adjusted word.Sra x n nx = kept_sra g l x n nx
  kept_adjusted word.Repeat x n nx = kept_repeat g l x n nx
  kept_adjusted other x n nx = tt

  kept_const : (w n : ℤ) → Keeps g IsNode (const w n g)
  kept_const w n = kept_then g (λ h v. IsOfWidth v) IsNode (given (number_bits w n) g) constant
      (kept_given g (λ h v. IsOfWidth v) (number_bits w n) l (λ v e. bits_of_numbers w n v e)) (λ h v lh gh is. kept_constant h lh v is)

  kept_choice : (xs : List NodeId) → AreNodes g xs → Keeps g IsNode (choice xs g)
  kept_choice (s ∷ a ∷ b ∷ cases) nodes = kept_mux g l s (a ∷ b ∷ cases) (nodes s first) (λ id has. nodes id (later has)) (omega arith)
  kept_choice [] nodes = tt
  kept_choice (s ∷ []) nodes = tt
  kept_choice (s ∷ a ∷ []) nodes = tt

  kept_concatenation : (xs : List NodeId) → AreNodes g xs → Keeps g IsNode (concatenation xs g)
  kept_concatenation (x ∷ parts) nodes = kept_cat g l (x ∷ parts) nodes (omega arith)
  kept_concatenation [] nodes = tt

  kept_plain : (w : CallWord) (xs : List NodeId) → AreNodes g xs → Keeps g IsNode (plain w xs g)
  kept_plain w [] nodes = tt
  kept_plain w (x ∷ []) nodes = kept_unary w x (nodes x first)
  kept_plain w (x ∷ y ∷ []) nodes = kept_binary w x y (nodes x first) (nodes y (later first))
  kept_plain w (s ∷ x ∷ y ∷ []) nodes = kept_ternary w s x y (nodes s first) (nodes x (later first)) (nodes y (later (later first)))
  kept_plain w (s ∷ x ∷ y ∷ z ∷ more) nodes = tt

  kept_of_signals : (w : CallWord) (xs : List NodeId) → AreNodes g xs → Keeps g IsNode (of_signals w xs g)
  kept_of_signals word.Mux xs nodes = kept_choice xs nodes
  kept_of_signals word.Cat xs nodes = kept_concatenation xs nodes
  kept_of_signals other xs nodes = kept_plain other xs nodes

  kept_with_number : (w : CallWord) (xs : List NodeId) (n : ℤ) → AreNodes g xs → Keeps g IsNode (with_number w xs n g)
  kept_with_number w (x ∷ []) n nodes = kept_adjusted w x n (nodes x first)
  kept_with_number w [] n nodes = tt
  kept_with_number w (x ∷ y ∷ more) n nodes = tt

  kept_const_alone : (xs : List NodeId) (w n : ℤ) → Keeps g IsNode (const_alone xs w n g)
  kept_const_alone [] w n = kept_const w n
  kept_const_alone (x ∷ xs) w n = tt

  kept_select_from : (xs : List NodeId) (hi lo : ℤ) → AreNodes g xs → Keeps g IsNode (select_from xs hi lo g)
  kept_select_from (x ∷ []) hi lo nodes = kept_select g l x hi lo (nodes x first)
  kept_select_from [] hi lo nodes = tt
  kept_select_from (x ∷ y ∷ more) hi lo nodes = tt

  kept_with_numbers : (w : CallWord) (xs : List NodeId) (m n : ℤ) → AreNodes g xs → Keeps g IsNode (with_numbers w xs m n g)
  kept_with_numbers word.Const xs m n nodes = kept_const_alone xs m n
  kept_with_numbers word.Select xs m n nodes = kept_select_from xs m n nodes
  kept_with_numbers other xs m n nodes = tt

  pub kept_called : (w : CallWord) (xs : List NodeId) (ns : List ℤ) → AreNodes g xs → Keeps g IsNode (called w xs ns g)
  kept_called w xs [] nodes = kept_of_signals w xs nodes
  kept_called w xs (n ∷ []) nodes = kept_with_number w xs n nodes
  kept_called w xs (m ∷ n ∷ []) nodes = kept_with_numbers w xs m n nodes
  kept_called w xs (m ∷ n ∷ k ∷ more) nodes = tt

  pub kept_operated : (kind : OpKind) (args : List NodeId) → AreNodes g args → Keeps g IsNode (operated kind args g)
  kept_operated kind args nodes = kept_rule g IsNode UnknownOp (length args == arity kind) (operation kind args)
      (λ holds. kept_operation g l kind args nodes (eqb-true (length args) (arity kind) holds))
