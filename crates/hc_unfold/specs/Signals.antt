-- Signals with every number put in.
use Rattle.std.specs.Prelude.{ℕ, List, [], ◌∷◌, map, Option, option_map, ℤ}
use Rattle.hc_sigtext.specs.declared.tree.CallWord.{CallWord}
use Rattle.hc_tokens.specs.declared.tree.Num.{Num}
use Rattle.hc_sigtext.specs.declared.tree.IdentText.{IdentText}
use Rattle.hc_sigtext.specs.declared.tree.Sig.{Sig, fold-Sig}
use Rattle.hc_sigtext.specs.declared.tree.Sig.TheOpen.{Sig-F}
use Rattle.hc_num.specs.Value.{Bindings, Outcome, value}

-- a name, with the value of its index where it has one
pub record Place : Type 0 where
  pub name : List ℕ
  pub index : Option Outcome

mutual
  -- a number without a value stands as its fault
  pub data Signal : Type 0 where
    Sized : ℤ → ℕ → Signal
    Named : Place → Signal
    Output : Place → List ℕ → Signal
    Call : CallWord → Signals → List Outcome → Signal
    Read : Place → Signal → Signal
    Op : List ℕ → Signals → Signal

  pub data Signals : Type 0 where
    none : Signals
    more : Signal → Signals → Signals

abbrev pub signals : List Signal → Signals
signals [] = none
signals (s ∷ ss) = more s (signals ss)

abbrev pub number : Bindings → Num → Outcome
number env n = value n env

abbrev pub place : Bindings → IdentText → Place
place env i = record { name = i.name; index = option_map (number env) i.index }

-- one level of a signal, over its parts with their numbers put in
abbrev pub level : Bindings → Sig-F Signal → Signal
level env (Sig-F.Sized width v) = Sized width v
level env (Sig-F.Name i) = Named (place env i)
level env (Sig-F.Port i p) = Output (place env i) p
level env (Sig-F.Call word ss ns) = Call word (signals ss) (map (number env) ns)
level env (Sig-F.Read m a) = Read (place env m) a
level env (Sig-F.Op k ss) = Op k (signals ss)

-- the signal with its numbers put in
abbrev pub signal : Bindings → Sig → Signal
signal env = fold-Sig Signal (level env)
