mod Reading
mod ReadTokens
mod ReadExprs
mod ReadDecls
mod ReadTrees
mod Taking
mod Deciding
mod Stages
mod Unlisted
mod PlainFiles
pub mod ForCallers
