-- What was handed on piece by piece.
use Rattle.std.proofs.Common.{◌≡◌, ℕ, List, [], ◌++◌, append_assoc, append-nil, sym, ◌∙◌, ap, refl, subst, arith, ◌≤◌, inl, inr}
use Rattle.std.proofs.KnownBytes.{Appends-nil, Appends-trans}
use Rattle.std.specs.Prelude.{Option, Result, Ok, Err}
use Rattle.std.specs.Result.{IsErr}
use Rattle.std.specs.Io.KnownBytes.{Appends}
use Rattle.hc_outside.specs.Causes.{Rose}
use Rattle.hc_outside.specs.Moves.{AppendsUpTo, AppendsFront}
use Rattle.hc_bench.specs.Queued.{IsQueued}
use Rattle.hc_bench.specs.Sent.{IsSent}

pub rose_later : (a b c : ℕ) → a ≤ b → Rose b c → Rose a c
rose_later a b c le (inl less) = inl (omega (arith, le, less))
rose_later a b c le (inr end) = inr end

-- ---- bytes that wait, and those that a sink takes

-- nothing was handed on
pub queue_none : (a : Option (List ℕ)) (waiting : List ℕ) → AppendsUpTo a a (waiting ++ []) waiting
queue_none a waiting = ([], append-nil waiting, Appends-nil a)

-- more was handed on
pub queue_more : (a b c : Option (List ℕ)) (waiting middle left bytes more : List ℕ) → AppendsUpTo a b (waiting ++ bytes) middle → AppendsUpTo b c (middle ++ more) left
    → AppendsUpTo a c (waiting ++ (bytes ++ more)) left
queue_more a b c waiting middle left bytes more (first, parts, so_far) (last, others, then_on) = (
  first ++ last,
  sym (append_assoc waiting bytes more) ∙ ap (λ l. l ++ more) parts ∙ append_assoc first middle more ∙ ap (λ l. first ++ l) others ∙ sym (append_assoc first last left),
  Appends-trans a b c first last so_far then_on,
)

-- a front of more was taken
pub queue_front : (a b c : Option (List ℕ)) (waiting middle bytes more : List ℕ) → AppendsUpTo a b (waiting ++ bytes) middle → AppendsFront b c (middle ++ more)
    → AppendsFront a c (waiting ++ (bytes ++ more))
queue_front a b c waiting middle bytes more so_far (rest, last) = (rest, queue_more a b c waiting middle rest bytes more so_far last)

-- a front is a front of more
pub front_of_more : (a b : Option (List ℕ)) (bytes more : List ℕ) → AppendsFront a b bytes → AppendsFront a b (bytes ++ more)
front_of_more a b bytes more (rest, (front, parts, some)) = (rest ++ more, (front, ap (λ l. l ++ more) parts ∙ append_assoc front rest more, some))

pub front_longer : (a b : Option (List ℕ)) (waiting bytes more : List ℕ) → AppendsFront a b (waiting ++ bytes) → AppendsFront a b (waiting ++ (bytes ++ more))
front_longer a b waiting bytes more some = subst (AppendsFront a b) (append_assoc waiting bytes more) (front_of_more a b (waiting ++ bytes) more some)

-- a front of what comes after bytes that were taken
pub front_behind : (a b c : Option (List ℕ)) (bytes more : List ℕ) → Appends a b bytes → AppendsFront b c more → AppendsFront a c (bytes ++ more)
front_behind a b c bytes more taken (rest, (front, parts, some)) =
    (rest, (bytes ++ front, ap (λ l. bytes ++ l) parts ∙ sym (append_assoc bytes front rest), Appends-trans a b c bytes front taken some))

-- ---- one call

-- the bytes were added to those that wait
pub queued_later : {T E : Type 0} (a : Option (List ℕ)) (k : ℕ) (waiting left bytes : List ℕ) (x : T) → left ≡ waiting ++ bytes → IsQueued {T = T} {E = E} a a k k waiting left (Ok x) bytes
queued_later a k waiting left bytes x is = record {
  all = ([], sym is, Appends-nil a);
  front = tt;
  cause = record { never_falls = omega arith; failed = tt };
}

-- those that waited were written, and the bytes wait now
pub queued_behind : {T E U : Type 0} (a b : Option (List ℕ)) (k m : ℕ) (waiting middle left bytes : List ℕ) (u : U) (x : T)
    → IsSent {T = U} {E = E} a b k m (Ok u) waiting → middle ≡ [] → left ≡ middle ++ bytes → IsQueued {T = T} {E = E} a b k m waiting left (Ok x) bytes
queued_behind a b k m waiting middle left bytes u x sent empty is = record {
  all = (waiting, ap (λ l. waiting ++ l) (sym (is ∙ ap (λ l. l ++ bytes) empty)), sent.all);
  front = tt;
  cause = record { never_falls = sent.cause.never_falls; failed = tt };
}

-- those that waited were written, and then the bytes
pub queued_through : {T E U : Type 0} (a b c : Option (List ℕ)) (k m n : ℕ) (waiting left bytes : List ℕ) (u : U) (result : Result T E)
    → IsSent {T = U} {E = E} a b k m (Ok u) waiting → left ≡ [] → IsSent b c m n result bytes → IsQueued a c k n waiting left result bytes
queued_through a b c k m n waiting left bytes u (Ok x) sent empty last = record {
  all = (waiting ++ bytes, sym (append-nil (waiting ++ bytes)) ∙ ap (λ l. (waiting ++ bytes) ++ l) (sym empty), Appends-trans a b c waiting bytes sent.all last.all);
  front = tt;
  cause = record { never_falls = omega (arith, sent.cause.never_falls, last.cause.never_falls); failed = tt };
}
queued_through a b c k m n waiting left bytes u (Err e) sent empty last =
    record {
      all = tt;
      front = front_behind a b c waiting bytes sent.all last.front;
      cause = record { never_falls = omega (arith, sent.cause.never_falls, last.cause.never_falls); failed = rose_later k m n sent.cause.never_falls last.cause.failed };
    }

-- those that waited were not written whole
pub queued_unsent : {T E U : Type 0} (a b : Option (List ℕ)) (k m : ℕ) (waiting left bytes : List ℕ) (e : E) (result : Result T E) → IsErr result
    → IsSent {T = U} {E = E} a b k m (Err e) waiting → IsQueued a b k m waiting left result bytes
queued_unsent a b k m waiting left bytes e (Ok x) is sent = absurd cc
queued_unsent a b k m waiting left bytes e (Err f) is sent =
    record {
      all = tt;
      front = front_of_more a b waiting bytes sent.front;
      cause = record { never_falls = sent.cause.never_falls; failed = sent.cause.failed };
    }

-- ---- call after call

-- a loop handed on the bytes up to the rest
abbrev pub QueuesUpTo : Option (List ℕ) → Option (List ℕ) → List ℕ → List ℕ → List ℕ → List ℕ → Type 0
QueuesUpTo a b waiting left bytes rest = (done : List ℕ) × (bytes ≡ done ++ rest) × AppendsUpTo a b (waiting ++ done) left

pub loop_none : (a : Option (List ℕ)) (waiting bytes : List ℕ) → QueuesUpTo a a waiting waiting bytes bytes
loop_none a waiting bytes = ([], refl, queue_none a waiting)

pub loop_more : (a b c : Option (List ℕ)) (waiting middle left bytes rest piece after : List ℕ) → QueuesUpTo a b waiting middle bytes rest → rest ≡ piece ++ after
    → AppendsUpTo b c (middle ++ piece) left → QueuesUpTo a c waiting left bytes after
loop_more a b c waiting middle left bytes rest piece after (done, whole, so_far) is more = (
  done ++ piece,
  whole ∙ ap (λ l. done ++ l) is ∙ sym (append_assoc done piece after),
  queue_more a b c waiting middle left done piece so_far more,
)

pub loop_end : (a b : Option (List ℕ)) (waiting left bytes rest : List ℕ) → QueuesUpTo a b waiting left bytes rest → rest ≡ [] → AppendsUpTo a b (waiting ++ bytes) left
loop_end a b waiting left bytes rest (done, whole, so_far) none =
    subst (λ l. AppendsUpTo a b (waiting ++ l) left) (sym (whole ∙ ap (λ l. done ++ l) none ∙ append-nil done)) so_far

-- a piece failed, when those before it were handed on
pub loop_cut : {T E : Type 0} (a b c : Option (List ℕ)) (k m n : ℕ) (waiting middle left bytes rest piece after : List ℕ) (result : Result T E) → IsErr result
    → QueuesUpTo a b waiting middle bytes rest → k ≤ m → rest ≡ piece ++ after → AppendsFront b c (middle ++ piece) → m ≤ n → Rose m n
    → IsQueued a c k n waiting left result bytes
loop_cut a b c k m n waiting middle left bytes rest piece after (Ok u) is so_far le parts front grows rose = absurd cc
loop_cut a b c k m n waiting middle left bytes rest piece after (Err e) is (done, whole, so_far) le parts front grows rose =
    let all : bytes ≡ (done ++ piece) ++ after = whole ∙ ap (λ l. done ++ l) parts ∙ sym (append_assoc done piece after) in
    record {
      all = tt;
      front = subst (λ l. AppendsFront a c (waiting ++ l)) (sym all) (front_longer a c waiting (done ++ piece) after (queue_front a b c waiting middle done piece so_far front));
      cause = record { never_falls = omega (arith, le, grows); failed = rose_later k m n le rose };
    }

-- one part more, when what is before it was handed on
pub queued_then : {T E U F : Type 0} (a b c : Option (List ℕ)) (k m n : ℕ) (waiting middle left : List ℕ) (x : T) (result : Result U F) (bytes more : List ℕ)
    → IsQueued {T = T} {E = E} a b k m waiting middle (Ok x) bytes → IsQueued b c m n middle left result more → IsQueued a c k n waiting left result (bytes ++ more)
queued_then a b c k m n waiting middle left x (Ok u) bytes more first last = record {
  all = queue_more a b c waiting middle left bytes more first.all last.all;
  front = tt;
  cause = record { never_falls = omega (arith, first.cause.never_falls, last.cause.never_falls); failed = tt };
}
queued_then a b c k m n waiting middle left x (Err e) bytes more first last = record {
  all = tt;
  front = queue_front a b c waiting middle bytes more first.all last.front;
  cause = record { never_falls = omega (arith, first.cause.never_falls, last.cause.never_falls); failed = rose_later k m n first.cause.never_falls last.cause.failed };
}

-- no part is handed on after one that failed
pub queued_stop : {T E U F : Type 0} (a b : Option (List ℕ)) (k m : ℕ) (waiting left : List ℕ) (e : E) (result : Result U F) (bytes more : List ℕ) → IsErr result
    → IsQueued {T = T} {E = E} a b k m waiting left (Err e) bytes → IsQueued a b k m waiting left result (bytes ++ more)
queued_stop a b k m waiting left e (Ok u) bytes more is first = absurd cc
queued_stop a b k m waiting left e (Err f) bytes more is first = record {
  all = tt;
  front = front_longer a b waiting bytes more first.front;
  cause = record { never_falls = first.cause.never_falls; failed = first.cause.failed };
}

pub queued_less : {T E : Type 0} (a b : Option (List ℕ)) (k m : ℕ) (waiting left : List ℕ) (result : Result T E) (bytes more : List ℕ) → IsErr result
    → IsQueued a b k m waiting left result bytes → IsQueued a b k m waiting left result (bytes ++ more)
queued_less a b k m waiting left (Ok u) bytes more is first = absurd cc
queued_less a b k m waiting left (Err f) bytes more is first = queued_stop a b k m waiting left f (Err f) bytes more is first

-- ---- five parts, the first so many of which were handed on

pub stop_first : {T E U F : Type 0} (a b : Option (List ℕ)) (k m : ℕ) (waiting left : List ℕ) (e : E) (result : Result U F) (p q r s t : List ℕ) → IsErr result
    → IsQueued {T = T} {E = E} a b k m waiting left (Err e) p → IsQueued a b k m waiting left result (p ++ q ++ r ++ s ++ t)
stop_first a b k m waiting left e result p q r s t is first = queued_less a b k m waiting left result (p ++ q ++ r ++ s) t is
    (queued_less a b k m waiting left result (p ++ q ++ r) s is (queued_less a b k m waiting left result (p ++ q) r is (queued_stop a b k m waiting left e result p q is first)))

pub stop_second : {T E U F : Type 0} (a b : Option (List ℕ)) (k m : ℕ) (waiting left : List ℕ) (e : E) (result : Result U F) (p q r s t : List ℕ) → IsErr result
    → IsQueued {T = T} {E = E} a b k m waiting left (Err e) (p ++ q) → IsQueued a b k m waiting left result (p ++ q ++ r ++ s ++ t)
stop_second a b k m waiting left e result p q r s t is first = queued_less a b k m waiting left result (p ++ q ++ r ++ s) t is
    (queued_less a b k m waiting left result (p ++ q ++ r) s is (queued_stop a b k m waiting left e result (p ++ q) r is first))

pub stop_third : {T E U F : Type 0} (a b : Option (List ℕ)) (k m : ℕ) (waiting left : List ℕ) (e : E) (result : Result U F) (p q r s t : List ℕ) → IsErr result
    → IsQueued {T = T} {E = E} a b k m waiting left (Err e) (p ++ q ++ r) → IsQueued a b k m waiting left result (p ++ q ++ r ++ s ++ t)
stop_third a b k m waiting left e result p q r s t is first = queued_less a b k m waiting left result (p ++ q ++ r ++ s) t is (queued_stop a b k m waiting left e result (p ++ q ++ r) s is first)
