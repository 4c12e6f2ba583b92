-- The line grammar: which tokens spell a line.
use Rattle.std.specs.Prelude.{ℕ, ◌≤◌, true, false, IsTrue, List, [], ◌∷◌, ◌++◌, map, Option, Some, None, ℤ, pos, neg_ℤ, int_le, codes}
use Rattle.hc_tokens.specs.declared.token.Token.TheVariants.{Word, Int, Sized, Operator, Mark}
use Rattle.hc_tokens.specs.declared.token.Mark.TheVariants as mark
use Rattle.hc_tokens.specs.declared.tree.NumOp.TheVariants as num_op
use Rattle.hc_tokens.specs.declared.tree.Num.{Num}
use Rattle.hc_sigtext.specs.declared.tree.IdentText.{IdentText}
use Rattle.hc_sigtext.specs.declared.tree.Sig.{Sig}
use Rattle.hc_lines.specs.declared.tree.What.{What}
use Rattle.hc_lines.specs.declared.tree.What.TheVariants as what
use Rattle.hc_lines.specs.declared.tree.BenchValue.{BenchValue}
use Rattle.hc_lines.specs.declared.tree.BenchValue.TheVariants as value
use Rattle.hc_lines.specs.declared.tree.BenchWhat.{BenchWhat}
use Rattle.hc_lines.specs.declared.tree.BenchWhat.TheVariants as bench_step
pub use Rattle.hc_lines.specs.declared.line.Line.{Line}
pub use Rattle.hc_lines.specs.declared.line.Line.TheVariants.{Circuit, Port, Simple, For, If, Else, End, Top, Bench, Step}
pub use Rattle.hc_tokens.specs.Grammar.{Text, Tokens, IsName, AreNames, keyword, IsNum, IsAtom, AreAtoms, most_open}
pub use Rattle.hc_sigtext.specs.Grammar.{IsIdent, IsSig}

-- connections one after the other
pub data AreConns : Tokens → List (Text × Sig) → Type 0 where
  none : AreConns [] []
  more : {ts us : Tokens} {s : Sig} {cs : List (Text × Sig)} (p : Text) → IsName p → IsSig ts s → AreConns us cs → AreConns (Word p ∷ Mark mark.Equals ∷ (ts ++ us)) ((p, s) ∷ cs)

-- the optional parts of a register, each a word and what follows it
pub data IsEnable : Tokens → Option Sig → Type 0 where
  absent : IsEnable [] None
  present : {ts : Tokens} {s : Sig} → IsSig ts s → IsEnable (keyword (codes "enable") ∷ ts) (Some s)

pub data IsClear : Tokens → Option (Sig × Num) → Type 0 where
  absent : IsClear [] None
  present : {ts us : Tokens} {s : Sig} {n : Num} → IsSig ts s → IsAtom us n → IsClear (keyword (codes "clear") ∷ (ts ++ us)) (Some (s, n))

pub data IsInit : Tokens → Option Num → Type 0 where
  absent : IsInit [] None
  present : {ts : Tokens} {n : Num} → IsAtom ts n → IsInit (keyword (codes "init") ∷ ts) (Some n)

-- a statement on one line
pub data IsSimple : Tokens → What → Type 0 where
  let_line : {ts us : Tokens} {i : IdentText} {s : Sig} → IsIdent ts i → IsSig us s → IsSimple (keyword (codes "let") ∷ (ts ++ us)) (what.Let i s)
  wire_line : {ts us : Tokens} {i : IdentText} {n : Num} → IsIdent ts i → IsNum us n → IsSimple (keyword (codes "wire") ∷ (ts ++ us)) (what.Wire i n)
  assign_line : {ts us : Tokens} {i : IdentText} {s : Sig} → IsIdent ts i → IsSig us s → IsSimple (keyword (codes "assign") ∷ (ts ++ us)) (what.Assign i s)
  label_line : {ts : Tokens} {i : IdentText} (w : Text) → IsName w → IsIdent ts i → IsSimple (keyword (codes "label") ∷ (ts ++ (Word w ∷ []))) (what.Label i w)
  reg_line : {ts us es cs ns : Tokens} {i : IdentText} {s : Sig} {e : Option Sig} {c : Option (Sig × Num)} {n : Option Num} → IsIdent ts i → IsSig us s → IsEnable es e
      → IsClear cs c → IsInit ns n → IsSimple (keyword (codes "reg") ∷ (ts ++ (us ++ (es ++ (cs ++ ns))))) (what.Reg i s e c n)
  memory_line : {ts us vs : Tokens} {i : IdentText} {size width : Num} → IsIdent ts i → IsAtom us size → IsAtom vs width
      → IsSimple (keyword (codes "memory") ∷ (ts ++ (us ++ vs))) (what.Memory i size width)
  write_line : {ts us vs ws : Tokens} {i : IdentText} {e a v : Sig} → IsIdent ts i → IsSig us e → IsSig vs a → IsSig ws v
      → IsSimple (keyword (codes "write") ∷ (ts ++ (us ++ (vs ++ ws)))) (what.Write i e a v)
  inst_line : {ts us vs : Tokens} {i : IdentText} {args : List Num} {conns : List (Text × Sig)} (of : Text) → IsName of → IsIdent ts i → AreAtoms us args
      → AreConns vs conns → IsSimple (keyword (codes "inst") ∷ (ts ++ (Word of ∷ (us ++ (Mark mark.Colon ∷ vs))))) (what.Inst i of args conns)

-- a value is INT, - INT or SIZED
pub data IsValue : Tokens → BenchValue → Type 0 where
  plus : (n : ℤ) → IsValue (Int n ∷ []) (value.Plain n)
  minus : (n : ℤ) → IsTrue (int_le (pos 0) n) → IsValue (Operator num_op.Sub ∷ Int n ∷ []) (value.Plain (neg_ℤ n))
  sized : (width : ℤ) (v : ℕ) → IsValue (Sized width v ∷ []) (value.Sized width v)

pub data IsStep : Tokens → BenchWhat → Type 0 where
  set : {ts : Tokens} {v : BenchValue} (p : Text) → IsName p → IsValue ts v → IsStep (keyword (codes "set") ∷ Word p ∷ ts) (bench_step.Set p v)
  cycle : IsStep (keyword (codes "cycle") ∷ []) (bench_step.Cycle (pos 1))
  cycles : (n : ℤ) → IsStep (keyword (codes "cycle") ∷ Int n ∷ []) (bench_step.Cycle n)
  reset : IsStep (keyword (codes "reset") ∷ []) bench_step.Reset

pub data IsForm : Tokens → Line → Type 0 where
  circuit : (w : Text) (ps : List Text) → IsName w → AreNames ps → IsForm (keyword (codes "circuit") ∷ Word w ∷ map Word ps) (Circuit w ps)
  input : {ts : Tokens} {n : Num} (w : Text) → IsName w → IsNum ts n → IsForm (keyword (codes "input") ∷ Word w ∷ ts) (Port true w n)
  output : {ts : Tokens} {n : Num} (w : Text) → IsName w → IsNum ts n → IsForm (keyword (codes "output") ∷ Word w ∷ ts) (Port false w n)
  simple : {ts : Tokens} {w : What} → IsSimple ts w → IsForm ts (Simple w)
  for_line : {ts us : Tokens} {a b : Num} (v : Text) → IsName v → IsAtom ts a → IsAtom us b → IsForm (keyword (codes "for") ∷ Word v ∷ (ts ++ us)) (For v a b)
  if_line : {ts : Tokens} {c : Num} → IsNum ts c → IsForm (keyword (codes "if") ∷ ts) (If c)
  else_line : IsForm (keyword (codes "else") ∷ []) Else
  end_line : IsForm (keyword (codes "end") ∷ []) End
  top : {ts : Tokens} {args : List Num} (w : Text) → IsName w → AreAtoms ts args → IsForm (keyword (codes "top") ∷ Word w ∷ ts) (Top w args)
  bench : IsForm (keyword (codes "bench") ∷ []) Bench
  step : {ts : Tokens} {s : BenchWhat} → IsStep ts s → IsForm ts (Step s)

-- The tokens are a line of the grammar that says this.
pub record IsLine (ts : Tokens) (l : Line) : Type 0 where
  pub form : IsForm ts l
  pub brackets : most_open 0 ts ≤ 64
