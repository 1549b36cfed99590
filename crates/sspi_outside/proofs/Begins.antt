-- A host begins with what its end's negotiation has.
use Rattle.std.proofs.Common.{◌≡◌, ℕ, List, [], Bool, true, false, Option, None, Some, refl, ap, ◌∙◌, subst, sym}
use Rattle.sspi_names.specs.declared.identity.AuthIdentity.{AuthIdentity}
use Rattle.sspi_negotiate.specs.declared.package_list.PackageListConfig.{PackageListConfig}
use Rattle.sspi_negotiate.specs.declared.protocol.NegotiatedProtocol.{NegotiatedProtocol}
use Rattle.sspi_negotiate.specs.declared.protocol.NegotiatedProtocol.TheVariants as hands
use Rattle.sspi_negotiate.specs.declared.state.Role.{Role}
use Rattle.sspi_negotiate.specs.declared.state.Role.TheVariants.{Client, Server}
use Rattle.sspi_negotiate.specs.Hand.{hand, hand_of}
use Rattle.sspi_negotiate.specs.New.{Begins, IsFirst, first_in_hand, fresh, packages_in}
use Rattle.sspi_negotiate.specs.PackageList.{is_name_of, packages_of}
use Rattle.sspi_negotiate.specs.declared.protocol.Protocol.{Protocol}
use Rattle.sspi_negotiate.specs.declared.state.NegotiateState.TheVariants as states
use Rattle.sspi_negotiate.specs.Values.{values_of}
use Rattle.sspi_outside.specs.Configured.{CourseBegins, Hosts, configured, list_by}
use Rattle.sspi_outside.specs.Course.{course_of, first_hand, new_course}
use Rattle.sspi_outside.specs.Outside.{OutsideState, outside_meaning}
use Rattle.sspi_outside.specs.declared.course.Course.{Course}

-- the names are read as they were written
read_as : (ntlm kerberos : Bool) → packages_of (list_by ntlm kerberos) ≡ record { ntlm = ntlm; kerberos = kerberos }
unfolding is_name_of
read_as true true = refl
read_as true false = refl
read_as false true = refl
read_as false false = refl

first_of : (role : Role) (ntlm kerberos : Bool) (m : NegotiatedProtocol OutsideState OutsideState) →
    IsFirst (hand outside_meaning outside_meaning) (first_in_hand role (configured (record { ntlm = ntlm; kerberos = kerberos }))) m →
    hand_of m ≡ first_hand (record { ntlm = ntlm; kerberos = kerberos })
unfolding is_name_of
first_of role true true (hands.Kerberos m) made = refl
first_of role true true (hands.Ntlm m) made = absurd made
first_of role true false (hands.Kerberos m) made = absurd made
first_of role true false (hands.Ntlm m) made = refl
first_of role false true (hands.Kerberos m) made = refl
first_of role false true (hands.Ntlm m) made = absurd made
first_of role false false m made = absurd made

-- what is known of a new negotiation
abbrev begun : Protocol → PackageListConfig → Bool → Course
begun held packages ip = record { state = states.Initial; hand = held; packages = packages; list = []; by_address = ip }

begins_as : (role : Role) (packages : PackageListConfig) (ip : Bool) (known : List AuthIdentity) (s : Hosts) →
    Begins outside_meaning outside_meaning role (configured packages) known s → course_of ip (values_of s) ≡ new_course packages ip
begins_as role packages ip known s made =
    ap (λ (x : Hosts). course_of ip (values_of x)) made.1
    ∙ ap (λ (held : Protocol). begun held (packages_in (configured packages)) ip)
    (first_of role packages.ntlm packages.kerberos s.mech made.0)
    ∙ ap (λ (p : PackageListConfig). begun (first_hand packages) p ip) (read_as packages.ntlm packages.kerberos)

pub course_begins : CourseBegins
course_begins packages ip known s = (λ made. begins_as Server packages ip known s made, λ made. begins_as Client packages ip [] s made)
