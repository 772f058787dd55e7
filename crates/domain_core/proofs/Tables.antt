-- Devices looked for from a place in a list on, for `host_at_port` and `link_at_port`.
use Rattle.std.proofs.Common.{◌≡◌, ◌≢◌, ℕ, ◌+◌, ◌<◌, ◌≤◌, List, ◌∷◌, length, drop, get_or, Some, None, refl}
use Rattle.std.proofs.Common.{ap, ◌∙◌, arith}
use Rattle.std.proofs.lemmas.Bool.Decides.{nat_tests}
use Rattle.std.proofs.lemmas.List.{drop_more, drop_all}
use Rattle.plan_rules.specs.declared.part.HostPart.{HostPart}
use Rattle.plan_rules.specs.declared.part.NodePart.{NodePart}
use Rattle.domain_core.specs.declared.device.Device.{Device}
use Rattle.domain_core.specs.declared.device.Device.TheVariants.{Host}
use Rattle.domain_core.specs.Devices.{host_at_port, link_at_port, link_of_four}

first_host : (number port : ℕ) (host : HostPart) (hosts : List HostPart) → host.port ≡ port
    → host_at_port number (host ∷ hosts) port ≡ Some (Host number)
first_host number port host hosts here = grind (arith, nat_tests)

later_host : (number port : ℕ) (host : HostPart) (hosts : List HostPart) → host.port ≢ port
    → host_at_port number (host ∷ hosts) port ≡ host_at_port (number + 1) hosts port
later_host number port host hosts other = grind (arith, nat_tests)

-- looked for from a host on that is at the port, the port's device is that host
pub host_here : (i port : ℕ) (hosts : List HostPart) (host : HostPart) → i < length hosts
    → (get_or hosts i host).port ≡ port
    → host_at_port i (drop i hosts) port ≡ Some (Host i)
host_here i port hosts host lt here =
    ap (λ (rest : List HostPart). host_at_port i rest port) (drop_more hosts i host lt)
    ∙ first_host i port (get_or hosts i host) (drop (i + 1) hosts) here

-- looked for from a host on that is at another port, the port's device is looked for from the next on
pub host_further : (i port : ℕ) (hosts : List HostPart) (host : HostPart)
    → i < length hosts → (get_or hosts i host).port ≢ port
    → host_at_port i (drop i hosts) port ≡ host_at_port (i + 1) (drop (i + 1) hosts) port
host_further i port hosts host lt other =
    ap (λ (rest : List HostPart). host_at_port i rest port) (drop_more hosts i host lt)
    ∙ later_host i port (get_or hosts i host) (drop (i + 1) hosts) other

-- past the last host no port has one
pub no_host : (i port : ℕ) (hosts : List HostPart) → length hosts ≤ i → host_at_port i (drop i hosts) port ≡ None
no_host i port hosts all = ap (λ (rest : List HostPart). host_at_port i rest port) (drop_all i hosts all)

first_link : (number port : ℕ) (n : NodePart) (nodes : List NodePart) (device : Device)
    → link_of_four number n.links port ≡ Some device
    → link_at_port number (n ∷ nodes) port ≡ Some device
first_link number port n nodes device here = rw here refl

later_link : (number port : ℕ) (n : NodePart) (nodes : List NodePart) → link_of_four number n.links port ≡ None
    → link_at_port number (n ∷ nodes) port ≡ link_at_port (number + 1) nodes port
later_link number port n nodes other = rw other refl

-- looked for from a node on, one of whose links is wired to the port, the port's device is that link
pub link_here : (i port : ℕ) (nodes : List NodePart) (node : NodePart) (device : Device)
    → i < length nodes → link_of_four i (get_or nodes i node).links port ≡ Some device
    → link_at_port i (drop i nodes) port ≡ Some device
link_here i port nodes node device lt here =
    ap (λ (rest : List NodePart). link_at_port i rest port) (drop_more nodes i node lt)
    ∙ first_link i port (get_or nodes i node) (drop (i + 1) nodes) device here

-- looked for from a node on, none of whose links is wired to the port, the device is looked for from the next on
pub link_further : (i port : ℕ) (nodes : List NodePart) (node : NodePart)
    → i < length nodes → link_of_four i (get_or nodes i node).links port ≡ None
    → link_at_port i (drop i nodes) port ≡ link_at_port (i + 1) (drop (i + 1) nodes) port
link_further i port nodes node lt other =
    ap (λ (rest : List NodePart). link_at_port i rest port) (drop_more nodes i node lt)
    ∙ later_link i port (get_or nodes i node) (drop (i + 1) nodes) other

-- past the last node no port has a link
pub no_link : (i port : ℕ) (nodes : List NodePart) → length nodes ≤ i → link_at_port i (drop i nodes) port ≡ None
no_link i port nodes all = ap (λ (rest : List NodePart). link_at_port i rest port) (drop_all i nodes all)
