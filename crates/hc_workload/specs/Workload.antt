-- The text of a workload: sixteen leaves, six levels of four circuits that are made of the level below, and a bench.
use Rattle.std.specs.Prelude.{ℕ, zero, suc, ◌+◌, ◌^◌, List, [], ◌∷◌, ◌++◌, codes}
use Rattle.hc_workload.specs.Template.{Template, said, number, below, one_of, each, filled}

abbrev pub heads : Template
heads = said (codes "input a n\ninput b n\noutput q n\n")

-- ---- leaves

-- the first operand: the input `a`, or the operation before
unfoldable pub earlier : ℕ → Template
earlier zero = said (codes "a")
earlier (suc k) = said (codes "x[") ++ number k ++ said (codes "]")

unfoldable pub operation_line : ℕ → Template
operation_line k =
    said (codes "let x[") ++ number k ++ said (codes "] ")
    ++ one_of (codes "add" ∷ codes "sub" ∷ codes "and" ∷ codes "or" ∷ codes "xor" ∷ [])
    ++ said (codes "(") ++ earlier k ++ said (codes ",") ++ one_of (codes "a" ∷ codes "b" ∷ []) ++ said (codes ")\n")

-- a chain of eight operations behind a register
unfoldable pub leaf : ℕ → Template
leaf j =
    said (codes "circuit leaf") ++ number j ++ said (codes " n\n") ++ heads
    ++ each 8 operation_line ++ said (codes "reg r x[7]\nassign q r\n")

-- ---- circuits of instances

-- one of the sixteen leaves, or of the four circuits of a level
unfoldable pub drawn_circuit : ℕ → Template
drawn_circuit zero = said (codes "leaf") ++ below 16
drawn_circuit (suc level) = said (codes "t") ++ number (suc level) ++ said (codes "_") ++ below 4

-- an instance of a circuit of the level below
unfoldable pub instance_line : ℕ → ℕ → Template
instance_line level c =
    said (codes "inst u[") ++ number c ++ said (codes "] ") ++ drawn_circuit level ++ said (codes " n : a=a b=b\n")

-- four instances of circuits of the level below
unfoldable pub circuit : ℕ → ℕ → Template
circuit level v =
    said (codes "circuit t") ++ number (level + 1) ++ said (codes "_") ++ number v ++ said (codes " n\n") ++ heads
    ++ each 4 (instance_line level) ++ said (codes "assign q add(xor(u[0].q,u[1].q),sub(u[2].q,u[3].q))\n")

abbrev pub level_circuits : ℕ → Template
level_circuits level = each 4 (circuit level)

-- ---- the bench

-- both inputs are set, and one cycle runs
unfoldable pub turn : Template
turn = said (codes "set a ") ++ below (2 ^ 31) ++ said (codes "\nset b ") ++ below (2 ^ 31) ++ said (codes "\ncycle\n")

-- ---- the whole

unfoldable pub workload_template : Template
workload_template =
    each 16 leaf ++ each 6 level_circuits
    ++ said (codes "top t6_0 32\nbench\n") ++ each 64 (λ _. turn) ++ said (codes "end\n")

-- the workload of a seed
unfoldable pub workload : ℕ → List ℕ
workload seed = filled seed workload_template
