-- Configurations that the test finds the same are equal.
use Rattle.std.proofs.Common.{◌≡◌, ap}
use Rattle.std.specs.Bool.{Decides}
use Rattle.std.proofs.lemmas.Bool.Decides.{Decides-like}
use Rattle.ioa_transitions.proofs.SameNodes.{same_node_is}
use Rattle.ioa_channels.proofs.SameQueues.{same_queue_is}
use Rattle.ioa_compose.specs.declared.configuration.Conf.{Conf}
use Rattle.ioa_compose.specs.declared.configuration.Conf.TheVariants.{Node, Queue}
use Rattle.ioa_compose.specs.SameConfs.{same_conf}

-- the test finds two configurations the same if and only if they are equal
pub same_conf_is : (c d : Conf) → Decides (same_conf c d) (c ≡ d)
same_conf_is (Node c) (Node d) = Decides-like _ (λ e. ap Node e) (λ e. cc) (same_node_is c d)
same_conf_is (Node c) (Queue r) = (λ h. absurd (cc), λ e. absurd (cc))
same_conf_is (Queue q) (Node d) = (λ h. absurd (cc), λ e. absurd (cc))
same_conf_is (Queue q) (Queue r) = Decides-like _ (λ e. ap Queue e) (λ e. cc) (same_queue_is q r)
