-- A source and a sink in memory, as contracts see them. Their calls are numbered from 0.
use Rattle.std.specs.Prelude.{ℕ, List, ◌-◌, ◌≡◌, length}

-- a source in memory: the bytes not yet read, the calls so far and how many of them failed, which calls fail, and how
-- many bytes one call moves at most
pub record SourceView : Type 0 where
  pub left : List ℕ
  pub calls : ℕ
  pub faults : ℕ
  pub failing : List ℕ
  pub cut : ℕ

-- a sink in memory: the bytes taken so far, how many it takes at most, and the rest as for a source
pub record SinkView : Type 0 where
  pub taken : List ℕ
  pub room : ℕ
  pub calls : ℕ
  pub faults : ℕ
  pub failing : List ℕ
  pub cut : ℕ

-- how many bytes more it takes
abbrev pub free : SinkView → ℕ
free sink = sink.room - length sink.taken

-- it takes no byte more
abbrev pub IsFull : SinkView → Type 0
IsFull sink = free sink ≡ 0
