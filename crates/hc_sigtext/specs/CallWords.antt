-- How the words of calls are written.
use Rattle.std.specs.Prelude.{ℕ, List, codes}
use Rattle.hc_sigtext.specs.declared.tree.CallWord.{CallWord}
use Rattle.hc_sigtext.specs.declared.tree.CallWord.TheVariants as word

abbrev pub spelling : CallWord → List ℕ
spelling word.Const = codes "const"
spelling word.Add = codes "add"
spelling word.Sub = codes "sub"
spelling word.Mulu = codes "mulu"
spelling word.Muls = codes "muls"
spelling word.And = codes "and"
spelling word.Or = codes "or"
spelling word.Xor = codes "xor"
spelling word.Eq = codes "eq"
spelling word.Lt = codes "lt"
spelling word.Not = codes "not"
spelling word.Mux = codes "mux"
spelling word.Cat = codes "cat"
spelling word.Select = codes "select"
spelling word.Ne = codes "ne"
spelling word.Gt = codes "gt"
spelling word.Le = codes "le"
spelling word.Ge = codes "ge"
spelling word.Lts = codes "lts"
spelling word.Mux2 = codes "mux2"
spelling word.Uresize = codes "uresize"
spelling word.Sresize = codes "sresize"
spelling word.Sll = codes "sll"
spelling word.Srl = codes "srl"
spelling word.Sra = codes "sra"
spelling word.Repeat = codes "repeat"
spelling word.Msb = codes "msb"
spelling word.Lsb = codes "lsb"
