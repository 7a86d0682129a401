-- What a call leaves is one thing. Assumes nothing.
use Rattle.std.specs.Prelude.{◌≡◌, List, ℕ}
use Rattle.refusal.specs.OneOutcomeLaws.{one_outcome}
use Rattle.c_terms.specs.declared.reply.Reply.{Reply}
use Rattle.c_terms.specs.Left.{Left, Untouched}

-- the same number, the same words and the same value
pub record Alike (r r' : ℕ) (l l' s s' v v' : List ℕ) : Type 0 where
  pub number : r ≡ r'
  pub longs : l ≡ l'
  pub shorts : s ≡ s'
  pub value : v ≡ v'

pub left_one : (reply : Reply) (toLongs toShorts longs shorts value : List ℕ) {r q : ℕ} {longs' longs'' shorts' shorts'' value' value'' : List ℕ}
    → Left reply toLongs toShorts longs shorts value r longs' shorts' value'
    → Left reply toLongs toShorts longs shorts value q longs'' shorts'' value''
    → Alike r q longs' longs'' shorts' shorts'' value' value''
left_one reply toLongs toShorts longs shorts value p q =
    record {
      number = one_outcome p.0 q.0;
      longs = one_outcome p.1 q.1;
      shorts = one_outcome p.2 q.2;
      value = one_outcome p.3 q.3;
    }

pub untouched_one : {D : Type 0} (o d e : D) (before : List ℕ) {first second : List ℕ} → Untouched d o before first → Untouched e o before second
    → (d ≡ e) × (first ≡ second)
untouched_one o d e before p q = (one_outcome p.0 q.0, one_outcome p.1 q.1)
