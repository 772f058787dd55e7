mod Runs
mod Exchanges
mod Chains
