-- At most one outcome behind the C boundary: what is told leaves one number and the same words. That the exported function then has one
-- outcome is `some_one` of crate `c_terms`. Assumes nothing.
use Rattle.std.specs.Prelude.{◌≡◌, List, ℕ}
use Rattle.std.specs.Prelude.{Result, Ok, Err}
use Rattle.refusal.specs.declared.Refusal.{Refusal}
use Rattle.peer_message_policy.specs.declared.policy.PeerMessagePolicy.{PeerMessagePolicy}
use Rattle.refusal.specs.OneOutcomeLaws.{one_outcome}
use Rattle.c_words.specs.Words.{Leaves}

-- two numbers, and two policies in words, are the same
pub record Alike (r r' : ℕ) (l l' s s' : List ℕ) : Type 0 where
  pub number : r ≡ r'
  pub longs : l ≡ l'
  pub shorts : s ≡ s'

-- what is told leaves one number and one policy in words
pub leaves_one : (numbered : Result (ℕ × PeerMessagePolicy) Refusal) (longs shorts : List ℕ) {r q : ℕ} {longs' longs'' shorts' shorts'' : List ℕ}
    → Leaves numbered longs shorts r longs' shorts' → Leaves numbered longs shorts q longs'' shorts'' → Alike r q longs' longs'' shorts' shorts''
leaves_one (Ok (n, p)) longs shorts h k =
    record { number = one_outcome h.0 k.0; longs = one_outcome h.1 k.1; shorts = one_outcome h.2 k.2 }
leaves_one (Err n) longs shorts h k =
    record { number = one_outcome h.0 k.0; longs = one_outcome h.1 k.1; shorts = one_outcome h.2 k.2 }
