use Rattle.std.proofs.Common.{refl}
use Rattle.hc_verilog.proofs.Single.{module_text_single}
use Rattle.hc_verilog.proofs.laws.module_texts_are_single.Goals as goal

pub returns : goal.returns
returns c = λ g modules title a b x y. module_text_single g modules modules title a b (λ k lt. refl) x y
