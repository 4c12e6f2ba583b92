-- What was sent piece by piece.
use Rattle.std.proofs.Common.{◌≡◌, ℕ, List, [], ◌++◌, append_assoc, append-nil, sym, ◌∙◌, ap, refl, subst, arith, ◌≤◌, inl, inr}
use Rattle.std.proofs.KnownBytes.{Appends-nil, Appends-trans}
use Rattle.std.specs.Prelude.{Option, Result, Ok, Err, OnErr}
use Rattle.std.specs.Result.{IsErr}
use Rattle.std.specs.Io.KnownBytes.{Appends}
use Rattle.hc_outside.specs.Causes.{Rose}
use Rattle.hc_outside.specs.Moves.{AppendsUpTo, AppendsFront}
use Rattle.hc_cli.specs.Sent.{IsSent}

-- nothing was sent so far
pub sent_none : (a : Option (List ℕ)) (bytes : List ℕ) → AppendsUpTo a a bytes bytes
sent_none a bytes = ([], refl, Appends-nil a)

-- one piece more was sent
pub sent_more : (a b c : Option (List ℕ)) (bytes rest piece after : List ℕ) → AppendsUpTo a b bytes rest → rest ≡ piece ++ after → Appends b c piece → AppendsUpTo a c bytes after
sent_more a b c bytes rest piece after (front, whole, so_far) is more = (
  front ++ piece,
  whole ∙ ap (λ l. front ++ l) is ∙ sym (append_assoc front piece after),
  Appends-trans a b c front piece so_far more,
)

-- a front of one piece more was sent
pub sent_front : (a b c : Option (List ℕ)) (bytes rest piece after : List ℕ) → AppendsUpTo a b bytes rest → rest ≡ piece ++ after → AppendsFront b c piece → AppendsFront a c bytes
sent_front a b c bytes rest piece after so_far is (left, (front, parts, some)) =
    (left ++ after, sent_more a b c bytes rest front (left ++ after) so_far (is ∙ ap (λ l. l ++ after) parts ∙ append_assoc front left after) some)

-- all was sent
pub sent_all : (a b : Option (List ℕ)) (bytes rest : List ℕ) → AppendsUpTo a b bytes rest → rest ≡ [] → Appends a b bytes
sent_all a b bytes rest (front, whole, so_far) none =
    subst (Appends a b) (sym (whole ∙ ap (λ l. front ++ l) none ∙ append-nil front)) so_far

pub rose_later : (a b c : ℕ) → a ≤ b → Rose b c → Rose a c
rose_later a b c le (inl less) = inl (omega (arith, le, less))
rose_later a b c le (inr end) = inr end

-- the write of a part failed, when what is before it was sent
pub sent_cut : {T E : Type 0} (a b c : Option (List ℕ)) (k m n : ℕ) (result : Result T E) (bytes rest piece after : List ℕ) → IsErr result → AppendsUpTo a b bytes rest
    → k ≤ m → rest ≡ piece ++ after → AppendsFront b c piece → m ≤ n → Rose m n → IsSent a c k n result bytes
sent_cut a b c k m n (Ok u) bytes rest piece after is so_far le parts front grows rose = absurd cc
sent_cut a b c k m n (Err e) bytes rest piece after is so_far le parts front grows rose = record {
  all = tt;
  front = sent_front a b c bytes rest piece after so_far parts front;
  cause = record { never_falls = omega (arith, le, grows); failed = rose_later k m n le rose };
}

-- the last write failed, when all before it was sent
pub sent_last : {T E : Type 0} (a b c : Option (List ℕ)) (result : Result T E) (bytes rest : List ℕ) → AppendsUpTo a b bytes rest → OnErr result (AppendsFront b c rest)
    → OnErr result (AppendsFront a c bytes)
sent_last a b c (Ok u) bytes rest so_far front = tt
sent_last a b c (Err e) bytes rest so_far front = sent_front a b c bytes rest rest [] so_far (sym (append-nil rest)) front

-- the write of the first part failed
pub sent_cut_first : {T E : Type 0} (a b : Option (List ℕ)) (m n : ℕ) (result : Result T E) (bytes piece after : List ℕ) → IsErr result → bytes ≡ piece ++ after
    → AppendsFront a b piece → m ≤ n → Rose m n → IsSent a b m n result bytes
sent_cut_first a b m n result bytes piece after is parts front grows rose = sent_cut a a b m m n result bytes bytes piece after is (sent_none a bytes) (omega arith) parts front grows rose
