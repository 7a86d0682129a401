pub mod GossipWords
pub mod Gossip
pub mod GossipLaws
pub mod Handed
