-- How often a client's turn may still ask its KDC, what the KDC replied, and how often it failed.
use Rattle.std.proofs.Common.{◌≡◌, ℕ, ◌+◌, ◌≤◌, Option, None, Some, Ok, Vec, ◌∙◌, arith}
use Rattle.sspi_mech.specs.declared.step.Reply.{Reply}
use Rattle.sspi_mech.specs.declared.step.Reply.TheVariants.{Answered, Failed}
use Rattle.sspi_types.specs.Counting.{counted_on}
use Rattle.sspi_mech.specs.Asking.{IsTold}
use Rattle.sspi_names.specs.declared.network.NetworkRequest.{NetworkRequest}
use Rattle.sspi_credssp.specs.declared.client_state.Progress.{Progress}
use Rattle.sspi_credssp.specs.declared.client_state.Progress.TheVariants.{Suspended, Completed}
use Rattle.sspi_delegate.specs.Chain.{RepliesAsTold, CountsReply, IsCalmWhereTold, HasReplied, HasNoReply}
use Rattle.sspi_delegate.specs.History.{KdcStays}

abbrev pub rounds_left : Progress → ℕ → ℕ
rounds_left (Suspended question) left = left + 1
rounds_left (Completed state) left = 0

reply_counted : (before now : ℕ) (reply : Reply) → CountsReply reply before now → before ≤ now
reply_counted before now (Answered bytes) h = h
reply_counted before now Failed h = h.0

calm_risen : (told : Option (ℕ → NetworkRequest → Reply)) (before now : ℕ) → IsCalmWhereTold told before now → before ≤ now
calm_risen None before now h = h
calm_risen (Some told) before now h = omega (arith, h)

-- what is exposed about an answer is exposed about the reply that it becomes
told_answer : {A : Type 0} (told : Option (ℕ → NetworkRequest → Reply)) (call : ℕ) (question : NetworkRequest) (before now : ℕ)
    (bytes : Vec ℕ A) →
    IsTold told call question before now (Ok bytes) → RepliesAsTold told call question (Answered bytes.items) before now
told_answer None call question before now bytes h = h
told_answer (Some told) call question before now bytes h = h

module _ {D : Type 0} (told : D → Option (ℕ → NetworkRequest → Reply)) (calls faults : D → ℕ) where
  pub answered : {A : Type 0} (before now : D) (question : NetworkRequest) (bytes : Vec ℕ A) → told now ≡ told before →
      calls now ≡ counted_on (calls before) →
      IsTold (told before) (calls before) question (faults before) (faults now) (Ok bytes) → faults before ≤ faults now →
      HasReplied told calls faults before question (Answered bytes.items) now
  answered before now question bytes same called as_told counted = record {
    told_same = same;
    called = called;
    as_told = told_answer (told before) (calls before) question (faults before) (faults now) bytes as_told;
    counted = counted;
  }

  -- what calls leave of a KDC

  pub kdc_replied : (first before now : D) (question : NetworkRequest) (reply : Reply) → KdcStays told faults first before →
      HasReplied told calls faults before question reply now → KdcStays told faults first now
  kdc_replied first before now question reply stays call = record {
    told_same = call.told_same ∙ stays.told_same;
    counted = omega (arith, stays.counted, reply_counted (faults before) (faults now) reply call.counted);
  }

  pub kdc_lost : (first before now : D) → KdcStays told faults first before → HasNoReply told calls faults before now →
      KdcStays told faults first now
  kdc_lost first before now stays call = record {
    told_same = call.told_same ∙ stays.told_same;
    counted = omega (arith, stays.counted, calm_risen (told before) (faults before) (faults now) call.calm);
  }

module _ {D : Type 0} (told : D → Option (ℕ → NetworkRequest → Reply)) (faults : D → ℕ) where
  pub kdc_on : (a b d : D) → KdcStays told faults a b → KdcStays told faults b d → KdcStays told faults a d
  kdc_on a b d first next = record {
    told_same = next.told_same ∙ first.told_same;
    counted = omega (arith, first.counted, next.counted);
  }
