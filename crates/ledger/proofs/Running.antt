-- What a trial's opening and end are to the ledger.
use Rattle.std.proofs.Common.{◌≡◌, ℕ, true, false, List, ℤ, Some, None, Ok, Err, Option, Result, refl, ap, ◌∙◌, subst, arith}
use Rattle.std.proofs.lemmas.Bool.{both_ways}
use Rattle.std.specs.Option.{option_map}
use Rattle.graph.specs.declared.parts.Refusal.{Refusal}
use Rattle.graph.specs.Refusals.{refusal_number}
use Rattle.graph.specs.Block.{Block, with_trim}
use Rattle.graph.specs.Trials as trials
use Rattle.graph.specs.Trials.{Opened, refusal_in, earlier_of}
use Rattle.ledger.specs.declared.words.Act.{Act}
use Rattle.ledger.specs.declared.words.Act.TheVariants.{Make, Open, Read, End}
use Rattle.ledger.specs.Answers.{Answer, done, call_answer, open_answer}
use Rattle.ledger.proofs.Histories.{by_next}
use Rattle.ledger.specs.Ledger.{Ledger, Trying, no_trial, refused_trial, trial_of, closed, kept_by, put_back, Acts, open_after, nested}

-- what a trial keeps, as the ledger has it
abbrev pub trying : Option Refusal → ℤ → ℤ → Trying
trying None arc earlier = trial_of arc earlier
trying (Some e) arc earlier = refused_trial

abbrev pub under : Block → ℤ → ℤ → Option Refusal → Ledger
under b arc earlier refusal = record { block = b; trial = trying refusal arc earlier }

open_is : (r : Result Unit ℕ) → open_answer (refusal_in r) ≡ call_answer r
open_is (Ok _) = refl
open_is (Err n) = refl

trying_is : (o : Option Refusal) (r : Result Unit ℕ) (arc earlier : ℤ) → option_map refusal_number o ≡ refusal_in r → trying o arc earlier ≡ kept_by r arc earlier
trying_is None (Ok _) arc earlier h = refl
trying_is None (Err n) arc earlier h = absurd (let z : ◌≡◌ {A = ℕ} 0 1 = cc in omega arith)
trying_is (Some e) (Ok _) arc earlier h = absurd (let z : ◌≡◌ {A = ℕ} 0 1 = cc in omega arith)
trying_is (Some e) (Err n) arc earlier h = refl

-- a primed number is the one that the code passes on
pub opened_acts : (b b' : Block) (n n' t t' arc earlier : ℤ) (refusal : Option Refusal) (a : Answer) → n' ≡ n → t' ≡ t
    → Opened b n' t' b' arc earlier refusal → a ≡ open_answer (option_map refusal_number refusal) → Acts (closed b) (Open n t) a (under b' arc earlier refusal)
opened_acts b b' n n' t t' arc earlier refusal a p q o' h =
    let o : Opened b n t b' arc earlier refusal = subst (λ x. Opened b x t b' arc earlier refusal) p (subst (λ x. Opened b n' x b' arc earlier refusal) q o') in
    let trial : trying refusal arc earlier ≡ kept_by (with_trim b n t).answer n (earlier_of b n) =
    (λ i. trying refusal (o.same_arc i) (o.kept i)) ∙ trying_is refusal (with_trim b n t).answer n (earlier_of b n) o.shown in
    (refl, h ∙ ap open_answer o.shown ∙ open_is (with_trim b n t).answer, λ i. record { block = o.set i; trial = trial i })

back_is : (b : Block) (arc earlier : ℤ) (refusal : Option Refusal) → trials.put_back b arc earlier refusal ≡ put_back b (trying refusal arc earlier)
back_is b arc earlier None = refl
back_is b arc earlier (Some e) = refl

not_closed : (arc earlier : ℤ) (refusal : Option Refusal) → trying refusal arc earlier ≡ no_trial → ⊥
not_closed arc earlier None h = let z : ◌≡◌ {A = ℕ} 0 1 = cc in omega arith
not_closed arc earlier (Some e) h = let z : ◌≡◌ {A = ℕ} 0 1 = cc in omega arith

pub ended_acts : (b b' : Block) (arc earlier : ℤ) (refusal : Option Refusal) → b ≡ trials.put_back b' arc earlier refusal
    → Acts (under b' arc earlier refusal) End done (closed b)
ended_acts b b' arc earlier refusal e = (not_closed arc earlier refusal, refl, ap closed (e ∙ back_is b' arc earlier refusal))

-- under an open trial only a reading or the end may come
pub then_end : (x : Act) (xs : List Act) → ((n : ℕ) → x ≡ Read n → ⊥) → by_next open_after (open_after x true) xs ≡ true → (x ≡ End) × (nested xs false ≡ true)
then_end (Make c) xs p h = absurd (both_ways false refl h)
then_end (Open n t) xs p h = absurd (both_ways false refl h)
then_end (Read n) xs p h = absurd (p n refl)
then_end End xs p h = (refl, h)
