-- Templates one behind the other.
use Rattle.std.proofs.Common.{◌≡◌, ℕ, List, [], ◌∷◌, ◌++◌, append_assoc, ap, ◌∙◌, sym, refl, decimal, length}
use Rattle.hc_workload.specs.Generator.{next_state, number_below}
use Rattle.hc_workload.specs.Template.{Template, bytes, drawn, choice, filled, state_after, text_at}
use Rattle.hc_workload.specs.Fills.{Fills}
use Rattle.hc_workload.specs.declared.draft.Draft.{Draft}

state_joined : (s : ℕ) (p q : Template) → state_after s (p ++ q) ≡ state_after (state_after s p) q
unfolding state_after
state_joined s [] q = refl
state_joined s (bytes text ∷ p) q = state_joined s p q
state_joined s (drawn limit ∷ p) q = state_joined (next_state s) p q
state_joined s (choice texts ∷ p) q = state_joined (next_state s) p q

behind : (x a b c : List ℕ) → a ≡ b ++ c → x ++ a ≡ (x ++ b) ++ c
behind x a b c e = ap (λ t. x ++ t) e ∙ sym (append_assoc x b c)

-- the text of two templates is that of the first, and then that of the second from where the draws are
text_joined : (s : ℕ) (p q : Template) → filled s (p ++ q) ≡ filled s p ++ filled (state_after s p) q
unfolding state_after filled
text_joined s [] q = refl
text_joined s (bytes text ∷ p) q = behind text (filled s (p ++ q)) (filled s p) (filled (state_after s p) q) (text_joined s p q)
text_joined s (drawn limit ∷ p) q =
    behind (decimal (number_below limit (next_state s))) (filled (next_state s) (p ++ q)) (filled (next_state s) p) (filled (state_after (next_state s) p) q) (text_joined (next_state s) p q)
text_joined s (choice texts ∷ p) q =
    behind (text_at texts (number_below (length texts) (next_state s))) (filled (next_state s) (p ++ q)) (filled (next_state s) p) (filled (state_after (next_state s) p) q) (text_joined (next_state s) p q)

texts : (x y z a b : List ℕ) → y ≡ x ++ a → z ≡ y ++ b → z ≡ x ++ (a ++ b)
texts x y z a b e f = f ∙ ap (λ t. t ++ b) e ∙ append_assoc x a b

-- two steps one after the other add both templates
pub join : {p q : Template} {a b c : Draft} → Fills p a b → Fills q b c → Fills (p ++ q) a c
join {p} {q} {a} {b} {c} first second =
    let at : state_after b.state q ≡ state_after (state_after a.state p) q = ap (λ s. state_after s q) first.state in
    let rest : filled b.state q ≡ filled (state_after a.state p) q = ap (λ s. filled s q) first.state in
    record {
      text = texts a.text.items b.text.items c.text.items (filled a.state p) (filled (state_after a.state p) q) first.text (second.text ∙ ap (λ t. b.text.items ++ t) rest)
          ∙ ap (λ t. a.text.items ++ t) (sym (text_joined a.state p q));
      state = second.state ∙ at ∙ sym (state_joined a.state p q);
    }
