-- No step undoes what is kept.
use Rattle.std.proofs.Common.{◌≡◌, ℕ, Bool, refl, sym, subst, ap, ◌∙◌}
use Rattle.std.proofs.lemmas.Bool.{false≢true}
use Rattle.sspi_types.specs.declared.error.Error.{Error}
use Rattle.sspi_mech.specs.declared.step.Answer.{Answer}
use Rattle.sspi_mech.specs.declared.step.Answer.TheVariants.{Done, Ask, Refused}
use Rattle.sspi_mech.specs.declared.step.Reply.{Reply}
use Rattle.sspi_mech.specs.Answers.{OnRefused}
use Rattle.sspi_mech.specs.Calls.{StepArgs, AcceptArgs}
use Rattle.sspi_mech.specs.Meaning.{Meaning}
use Rattle.sspi_mech.specs.Settings.{Setting}
use Rattle.sspi_negotiate.specs.Client.{spnego_client, spnego_resumed}
use Rattle.sspi_negotiate.specs.declared.branch.Branch.TheVariants.{Idle}
use Rattle.sspi_negotiate.specs.declared.protocol.NegotiatedProtocol.{NegotiatedProtocol}
use Rattle.sspi_negotiate.specs.declared.state.Role.TheVariants.{Client}
use Rattle.sspi_negotiate.specs.Does.{WaitsOn, as_before, no_longer, UnlessMemory}
use Rattle.sspi_negotiate.specs.Hand.{Origin, hand_of}
use Rattle.sspi_negotiate.specs.Keeps.{Keeps, KeepsPackages, HasList, is_opening}
use Rattle.sspi_negotiate.specs.Negotiate.{negotiate}
use Rattle.sspi_negotiate.specs.Server.{spnego_server}
use Rattle.sspi_negotiate.specs.Values.{Values, Negotiation}
use Rattle.sspi_negotiate.proofs.Kept.{IsKept, client_kept, resumed_kept, server_kept}
use Rattle.sspi_negotiate.proofs.Leads.{Leads}

pub packages_kept : (P : Type 0) (r : Answer) (v v2 : Values) → UnlessMemory r (Keeps v v2) →
    (P → KeepsPackages v.packages v.hand v2.packages v2.hand) → OnRefused r P → KeepsPackages v.packages v.hand v2.packages v2.hand
packages_kept P (Done step) v v2 keeps packages stays = keeps.packages
packages_kept P (Ask request) v v2 keeps packages stays = keeps.packages
packages_kept P (Refused error) v v2 keeps packages stays = packages stays

-- a refused resume keeps the packages
pub waiting_keeps : {N K : Type 0} (s s2 : Negotiation (NegotiatedProtocol N K)) → WaitsOn s (record s { branch = Idle }) s2 →
    KeepsPackages s.packages (hand_of s.mech) s2.packages (hand_of s2.mech)
waiting_keeps {N = N} {K = K} s s2 (as_before same) =
    subst (λ (x : Negotiation (NegotiatedProtocol N K)). KeepsPackages s.packages (hand_of s.mech) x.packages (hand_of x.mech)) (sym same)
    (record { ntlm = λ h. h; kerberos = λ h. h; in_hand = λ h. h })
waiting_keeps s s2 (no_longer stays) = stays.packages

waiting_list : {N K : Type 0} (s s2 : Negotiation (NegotiatedProtocol N K)) → WaitsOn s (record s { branch = Idle }) s2 →
    s.role ≡ Client → s2.list ≡ s.list
waiting_list {N = N} {K = K} s s2 (as_before same) client = ap (λ (x : Negotiation (NegotiatedProtocol N K)). x.list) same
waiting_list s s2 (no_longer stays) client = stays.list client

-- a client keeps its list when a resume is refused
pub resumed_list : {N K : Type 0} (r : ℕ) (n : Meaning Setting N) (k : Meaning Setting K) (s s2 : Negotiation (NegotiatedProtocol N K))
    (reply : Reply) (error : Error) → (negotiate r n k).resumes s reply (Refused error) s2 → s.role ≡ Client → s2.list ≡ s.list
resumed_list r n k s s2 reply error moves client = waiting_list s s2 moves.stays.waits client

abbrev pub KeptFrom : Values → Answer → Values → Type 0
KeptFrom v r v2 = Keeps v v2

same : (v : Values) → Keeps v v
same v = record { packages = record { ntlm = λ h. h; kerberos = λ h. h; in_hand = λ h. h }; list = λ h. refl }

kept_from : (v0 : Values) → IsKept (KeptFrom v0) (Keeps v0) (HasList v0 → ⊥)
kept_from v0 = record {
  done = λ v step g. g;
  stop = λ v branch error g. record { packages = g.packages; list = g.list };
  ask = λ v branch q waits g. record { packages = g.packages; list = g.list };
  state = λ v state g. record { packages = g.packages; list = g.list };
  need = λ v need g. record { packages = g.packages; list = g.list };
  kept = λ v kept g. record { packages = g.packages; list = g.list };
  list = λ v list first g. record { packages = g.packages; list = λ has. absurd (first has) };
  to_ntlm = λ v usable g. record {
    packages = record { ntlm = g.packages.ntlm; kerberos = λ h. absurd (false≢true h); in_hand = λ h. usable };
    list = g.list;
  };
  pick_ntlm = λ v usable g. record {
    packages = record { ntlm = g.packages.ntlm; kerberos = g.packages.kerberos; in_hand = λ h. usable };
    list = g.list;
  };
  to_kerberos = λ v usable g. record {
    packages = record { ntlm = λ h. absurd (false≢true h); kerberos = g.packages.kerberos; in_hand = λ h. usable };
    list = g.list;
  };
  rule_kerberos = λ v usable g. record {
    packages = record { ntlm = g.packages.ntlm; kerberos = g.packages.kerberos; in_hand = λ h. usable };
    list = g.list;
  };
}

module _ {M : Type 0} (c : Meaning Origin M) (m : M) (v : Values) where
  pub client_keeps : (ip : Bool) (args : StepArgs) → Leads c (λ m1. KeptFrom v) (spnego_client ip v args) m
  client_keeps ip args = client_kept c (KeptFrom v) (Keeps v) (HasList v → ⊥) (kept_from v) ip v args m (λ h has. has.begun h)
      (λ error. same v) (λ h. same v)

  pub resumed_keeps : (reply : Reply) → Leads c (λ m1. KeptFrom v) (spnego_resumed v reply) m
  resumed_keeps reply = resumed_kept c (KeptFrom v) (Keeps v) (HasList v → ⊥) (kept_from v) v reply m
      (λ opening h has. false≢true (sym has.made ∙ ap is_opening h)) (λ error. same v)
      (record { packages = record { ntlm = λ h. h; kerberos = λ h. h; in_hand = λ h. h }; list = λ h. refl })

  pub server_keeps : (args : AcceptArgs) → Leads c (λ m1. KeptFrom v) (spnego_server v args) m
  server_keeps args = server_kept c (KeptFrom v) (Keeps v) (HasList v → ⊥) (kept_from v) v args m (λ h has. has.begun h) (same v)
