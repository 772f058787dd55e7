-- Equality of nodes and hosts, for `are_same_nodes` and `are_same_hosts`.
use Rattle.std.proofs.Common.{◌≡◌, ℕ, ◌&&◌, Option, Some, None, List, refl, ap}
use Rattle.std.specs.Bool.{Decides}
use Rattle.std.specs.Option.{option_eq}
use lib.Dec.{eqb}
use lib.Pointwise.{pointwise}
use Rattle.std.proofs.lemmas.Bool.{false≢true}
use Rattle.std.proofs.lemmas.Bool.Decides.{Decides-eqb, Decides-and}
use Rattle.std.proofs.lemmas.Slice.Eq.{slice_eq-Decides}
use Rattle.plan_rules.specs.declared.part.NodePart.{NodePart}
use Rattle.plan_rules.specs.declared.part.HostPart.{HostPart}

abbrev host : ℕ → ℕ → HostPart
host port user = record { port = port; user = user }

hosts_equal : (p q user v : ℕ) → p ≡ q → user ≡ v → host p user ≡ host q v
hosts_equal p q user v same equal = cc

-- two hosts are the same exactly if their ports and their users are
pub same_host : (other_host third_host : HostPart) → Decides
    (eqb other_host.port third_host.port && eqb other_host.user third_host.user) (other_host ≡ third_host)
same_host other_host third_host =
    let fields = Decides-and _ _ (Decides-eqb other_host.port third_host.port)
    (Decides-eqb other_host.user third_host.user) in (
      λ e. hosts_equal other_host.port third_host.port other_host.user third_host.user (fields.0 e).0 (fields.0 e).1,
      λ e. fields.1 (ap (λ (h : HostPart). h.port) e, ap (λ (h : HostPart). h.user) e),
    )

same_option : (number other_number : Option ℕ) → Decides (option_eq eqb number other_number) (number ≡ other_number)
same_option None None = (λ e. refl, λ e. refl)
same_option None (Some y) = (λ e. absurd (false≢true e), λ e. cc)
same_option (Some x) None = (λ e. absurd (false≢true e), λ e. cc)
same_option (Some x) (Some y) =
    (λ e. ap Some ((Decides-eqb x y).0 e), λ e. let same : x ≡ y = cc in (Decides-eqb x y).1 same)

same_links : (xs ys : List (Option ℕ)) → Decides (pointwise (option_eq eqb) xs ys) (xs ≡ ys)
same_links xs ys = slice_eq-Decides same_option xs ys (pointwise (option_eq eqb) xs ys) refl

abbrev node : ℕ → List (Option ℕ) → NodePart
node memory links = record { memory = memory; links = links }

nodes_equal : (m n : ℕ) (numbers other_numbers : List (Option ℕ)) → m ≡ n → numbers ≡ other_numbers → node m numbers
    ≡ node n other_numbers
nodes_equal m n numbers other_numbers same equal = cc

-- two nodes are the same exactly if their sizes of memory and their links are
pub same_node : (other_node third_node : NodePart) → Decides
    (eqb other_node.memory third_node.memory && pointwise (option_eq eqb) other_node.links third_node.links)
    (other_node ≡ third_node)
same_node other_node third_node =
    let fields = Decides-and _ _ (Decides-eqb other_node.memory third_node.memory)
    (same_links other_node.links third_node.links) in (
      λ e. nodes_equal other_node.memory third_node.memory other_node.links third_node.links
          (fields.0 e).0 (fields.0 e).1,
      λ e. fields.1 (ap (λ (n : NodePart). n.memory) e, ap (λ (n : NodePart). n.links) e),
    )
