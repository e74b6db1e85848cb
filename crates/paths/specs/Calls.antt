-- What each call of a ledger answers and leaves, computed.
use Rattle.std.specs.Prelude.{ℕ, List, [], ◌∷◌, Ok, Err, Result}
use Rattle.reader.specs.declared.faults.FileRefusal.{FileRefusal}
use Rattle.reader.specs.Faults.{number_of}
use Rattle.reader.specs.Format.{scanned}
use Rattle.reader.specs.Loading.{loaded}
use Rattle.graph.specs.Block.{Block, Kept, Outcome, with_arc, without_arc, with_start, with_end, with_trim}
use Rattle.graph.specs.Sets.{with_cleared}
use Rattle.graph.specs.Computed.{with_pair, line_step}
use Rattle.graph.specs.Lines.{kind_of}
use Rattle.ledger.specs.declared.words.Call.{Call}
use Rattle.ledger.specs.declared.words.Call.TheVariants.{AddArc, DropArc, SetStart, SetEnd, SetTrim, Pair, Clear, Load}
use Rattle.ledger.specs.Answers.{Answer, done, taken, refused, refused_file, shows, call_answer, arc_answer}
use Rattle.ledger.specs.Calls.{Calls}

pub record Turn : Type 0 where
  pub answer : Answer
  pub after : Block

abbrev turn : {A : Type 0} → (Result A ℕ → Answer) → Outcome A → Turn
turn f w = record { answer = f w.answer; after = w.after }

-- all or none
abbrev pub load_turn : Block → Result Block FileRefusal → Turn
load_turn g (Ok g') = record { answer = done; after = g' }
load_turn g (Err e) = record { answer = refused_file e; after = g }

abbrev pub called : Block → Call → Turn
called g (AddArc u v) = turn arc_answer (with_arc g u v)
called g (DropArc n) = turn call_answer (without_arc g n)
called g (SetStart v t) = turn call_answer (with_start g v t)
called g (SetEnd v t) = turn call_answer (with_end g v t)
called g (SetTrim n t) = turn call_answer (with_trim g n t)
called g (Pair s u v) = turn call_answer (with_pair g s u v)
called g (Clear s) = turn call_answer (with_cleared g s)
called g (Load file bytes) = load_turn g (loaded line_step (scanned (kind_of file) bytes.now) g)

-- the content after an accepted call, or the number of the refusal
abbrev pub accepted : Answer → Block → Result Block ℕ
accepted done g = Ok g
accepted (taken n) g = Ok g
accepted (shows o) g = Ok g
accepted (refused n) g = Err n
accepted (refused_file e) g = Err (number_of e.fault)

-- the content after the calls, or the first refusal
abbrev pub ran : Result Block ℕ → List Call → Result Block ℕ
ran r [] = r
ran (Err n) (c ∷ cs) = Err n
ran (Ok g) (c ∷ cs) = ran (accepted (called g c).answer (called g c).after) cs

-- it is what the ledger says of the call
abbrev pub CallsAreComputed : Type 0
CallsAreComputed = (g : Block) → Kept g → (c : Call) → Calls g c (called g c).answer (called g c).after
